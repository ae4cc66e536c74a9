use Rattle.std.proofs.Common.{◌<◌, ◌≤◌, ℕ, get_or, length}
use Rattle.bsp_step.proofs.outcomes.putting.first_from.Given as goal

-- The numbers from the place on are not lower.
abbrev pub invariant-loop-place : goal.invariant-loop-place
invariant-loop-place l = record {
  within : l.place ≤ length l.processes;
  behind : (k : ℕ) → l.place ≤ k → k < length l.processes → l.from ≤ get_or l.processes k 0;
}

abbrev pub decreases-loop-place : goal.decreases-loop-place
decreases-loop-place l = l.place
