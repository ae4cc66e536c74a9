use Rattle.bsp_collectives.proofs.Arriving.{all_gather-arrives, all_gather-arrives_apart}
use Rattle.bsp_collectives.proofs.HalfCosts.{all_gather-costs}
use Rattle.bsp_collectives.proofs.laws.all_gather_arrives.Goals as goal

pub returns-clause-words : goal.returns-clause-words
returns-clause-words c = all_gather-arrives

pub returns-clause-apart : goal.returns-clause-apart
returns-clause-apart c = all_gather-arrives_apart

pub returns-clause-costs : goal.returns-clause-costs
returns-clause-costs c = all_gather-costs
