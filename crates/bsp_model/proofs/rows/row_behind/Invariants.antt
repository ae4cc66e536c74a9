use Rattle.std.proofs.Common.{◌≤◌, ◌<◌, ℕ, get_or}
use Rattle.bsp_model.proofs.rows.row_behind.Given as goal

-- The rows so far end before the place, or at it.
abbrev pub invariant-loop-number : goal.invariant-loop-number
invariant-loop-number l = (k : ℕ) → l.from ≤ k → k < l.number → get_or l.ends k 0 ≤ l.place
