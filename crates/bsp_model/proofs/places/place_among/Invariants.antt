use Rattle.std.proofs.Common.{ℕ, ◌<◌, length, get_or}
use Rattle.bsp_model.proofs.places.place_among.Given as goal

-- The processes behind the place are higher, and the first is not.
abbrev pub invariant-loop-place : goal.invariant-loop-place
invariant-loop-place l = record {
  inside : l.place < length l.processes;
  behind : (k : ℕ) → l.place < k → k < length l.processes → l.pid < get_or l.processes k 0;
}

abbrev pub decreases-loop-place : goal.decreases-loop-place
decreases-loop-place l = l.place
