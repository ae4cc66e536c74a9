use Rattle.std.proofs.Common.{◌≡◌, ◌<◌, ℕ, true}
use Rattle.bsp_step.specs.OutcomeParts.{outcome_of}
use Rattle.bsp_deliver.specs.SyncFault.{same_tag}
use Rattle.bsp_deliver.proofs.faults.is_same_tag_choice.Given as goal

-- all processes so far made the same choice
abbrev pub invariant-loop-pid : goal.invariant-loop-pid
invariant-loop-pid l = (k : ℕ) → k < l.pid → same_tag l.first.tag (outcome_of l.outcomes k).tag ≡ true
