use Rattle.bsp_causes.proofs.Travelling.{bounded}
use Rattle.bsp_causes.proofs.costs.outcomes_if_any.Goals as goal

pub returns-in-Some-clause-bounded : goal.returns-in-Some-clause-bounded
returns-in-Some-clause-bounded c = bounded c.outcomes_there.result.now c.outcomes_there.ensures.deliverable
