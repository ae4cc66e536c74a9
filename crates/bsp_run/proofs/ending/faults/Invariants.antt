use Rattle.std.proofs.Common.{◌≡◌, take}
use Rattle.bsp_run.specs.Ending.{faults_from}
use Rattle.bsp_run.proofs.ending.faults.Given as goal

abbrev pub invariant-loop-pid : goal.invariant-loop-pid
invariant-loop-pid l = l.faults ≡ faults_from 0 (take l.pid l.outcomes)
