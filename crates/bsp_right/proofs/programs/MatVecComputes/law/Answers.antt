use Rattle.bsp_right.proofs.MatVecRun.{matvec_multiplies}
use Rattle.bsp_right.proofs.programs.MatVecComputes.law.Goals as goal

pub returns : goal.returns
returns c = λ _. matvec_multiplies c.args._input.now
