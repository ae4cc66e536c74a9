use Rattle.bsp_collectives.proofs.Arriving.{exchange_parts-arrives, exchange_parts-arrives_apart}
use Rattle.bsp_collectives.proofs.HalfCosts.{exchange_parts-costs}
use Rattle.bsp_collectives.proofs.laws.exchange_parts_arrive.Goals as goal

pub returns-clause-words : goal.returns-clause-words
returns-clause-words c = exchange_parts-arrives

pub returns-clause-apart : goal.returns-clause-apart
returns-clause-apart c = exchange_parts-arrives_apart

pub returns-clause-costs : goal.returns-clause-costs
returns-clause-costs c = exchange_parts-costs
