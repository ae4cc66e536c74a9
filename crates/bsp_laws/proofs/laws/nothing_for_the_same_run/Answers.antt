use Rattle.bsp_laws.proofs.Undone.{nothing_done}
use Rattle.bsp_laws.proofs.laws.nothing_for_the_same_run.Goals as goal

pub returns : goal.returns
returns c = nothing_done
