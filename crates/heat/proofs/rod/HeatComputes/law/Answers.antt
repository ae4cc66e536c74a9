use Rattle.heat.proofs.HeatRun.{heat_advances}
use Rattle.heat.proofs.rod.HeatComputes.law.Goals as goal

pub returns : goal.returns
returns c = λ _. heat_advances c.args._input.now
