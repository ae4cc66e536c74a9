use Rattle.std.proofs.Common.{◌≡◌}
use Rattle.bsp_model.specs.ProcessSet.{processes_where}
use Rattle.bsp_causes.specs.Inside.Parts.{is_other}
use Rattle.bsp_causes.proofs.deliveries.other_processes.Given as goal

-- of the processes so far those of which something else comes
abbrev pub invariant-loop-q : goal.invariant-loop-q
invariant-loop-q l = l.processes ≡ processes_where l.q (is_other l.part l.old l.new l.d)
