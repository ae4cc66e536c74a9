use Rattle.bsp_collectives.proofs.Arriving.{exchange-arrives}
use Rattle.bsp_collectives.proofs.HalfCosts.{exchange-costs}
use Rattle.bsp_collectives.proofs.laws.exchange_arrives.Goals as goal

pub returns-clause-words : goal.returns-clause-words
returns-clause-words c = exchange-arrives

pub returns-clause-costs : goal.returns-clause-costs
returns-clause-costs c = exchange-costs
