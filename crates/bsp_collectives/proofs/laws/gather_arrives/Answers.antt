use Rattle.bsp_collectives.proofs.Arriving.{gather-arrives, gather-elsewhere, gather-arrives_apart}
use Rattle.bsp_collectives.proofs.HalfCosts.{gather-costs}
use Rattle.bsp_collectives.proofs.laws.gather_arrives.Goals as goal

pub returns-clause-root : goal.returns-clause-root
returns-clause-root c = gather-arrives

pub returns-clause-elsewhere : goal.returns-clause-elsewhere
returns-clause-elsewhere c = gather-elsewhere

pub returns-clause-apart : goal.returns-clause-apart
returns-clause-apart c = gather-arrives_apart

pub returns-clause-costs : goal.returns-clause-costs
returns-clause-costs c = gather-costs
