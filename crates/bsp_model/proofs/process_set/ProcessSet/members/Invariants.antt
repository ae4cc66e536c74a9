use Rattle.std.proofs.Common.{◌≡◌, ◌++◌}
use Rattle.bsp_model.specs.ProcessSet.{processes_in}
use Rattle.bsp_model.proofs.process_set.ProcessSet.members.Given as goal

-- the processes so far, and those that are left
abbrev pub invariant-loop-process : goal.invariant-loop-process
invariant-loop-process l = l.members.items ++ l.process-iterator ≡ processes_in l.self
