use Rattle.bsp_right.proofs.BroadcastRun.{broadcast_tells}
use Rattle.bsp_right.proofs.programs.BroadcastComputes.law.Goals as goal

pub returns : goal.returns
returns c = λ _. broadcast_tells c.args._input.now
