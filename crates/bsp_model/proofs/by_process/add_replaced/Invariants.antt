use Rattle.std.proofs.Common.{◌-◌, length}
use Rattle.bsp_model.proofs.Replaced.{IsFront}
use Rattle.bsp_model.proofs.by_process.add_replaced.Given as goal

-- what stands in front of what is still to be looked at
abbrev pub invariant-loop-place : goal.invariant-loop-place
invariant-loop-place g l = IsFront (g.T.ByProcess.items l.old) l.processes (g.T.ByProcess.items l.new) l.place (g.T.ByProcess.items l.all)

abbrev pub decreases-loop-place : goal.decreases-loop-place
decreases-loop-place g l = length l.processes - l.place
