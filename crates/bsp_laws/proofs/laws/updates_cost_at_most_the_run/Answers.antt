use Rattle.bsp_laws.proofs.AtMost.{at_most}
use Rattle.bsp_laws.proofs.laws.updates_cost_at_most_the_run.Goals as goal

pub returns : goal.returns
returns c = at_most
