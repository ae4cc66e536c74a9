use Rattle.std.proofs.Common.{◌≡◌, ◌<◌, ℕ}
use Rattle.bsp_step.specs.OutcomeParts.{outcome_of}
use Rattle.bsp_deliver.proofs.faults.is_mixed.Given as goal

-- the processes so far ended as the first one
abbrev pub invariant-loop-pid : goal.invariant-loop-pid
invariant-loop-pid l = (k : ℕ) → k < l.pid → (outcome_of l.outcomes k).ended ≡ l.first
