use Rattle.std.proofs.Common.{◌≡◌, ◌≤◌, ◌-◌, ℕ, length, vec_len}
use Rattle.bsp_model.specs.Columns.{row_at}
use Rattle.bsp_model.specs.Inside.Rows.{rows_of, AreEnds}
use Rattle.bsp_model.proofs.rows.Rows.fill.Given as goal

-- the rows so far have the items that the rows had when the loop began
abbrev pub invariant-loop-self : goal.invariant-loop-self
invariant-loop-self g l = record {
  ends : AreEnds 0 l.self-inside.ends.items (length l.self-inside.items.items);
  few : length l.self-inside.ends.items ≤ l.count;
  same : (k : ℕ) → row_at (rows_of 0 l.self-inside.items.items l.self-inside.ends.items) k ≡ row_at (rows_of 0 l.initial.self-inside.items.items l.initial.self-inside.ends.items) k;
}

abbrev pub decreases-loop-self : goal.decreases-loop-self
decreases-loop-self g l = l.count - vec_len l.self-inside.ends
