use Rattle.std.proofs.Common.{◌≡◌, ◌≤◌, ◌-◌, ℕ, length, take, vec_len}
use Rattle.bsp_model.specs.Columns.{row_at}
use Rattle.bsp_model.specs.Inside.Rows.{rows_of, AreEnds}
use Rattle.bsp_model.proofs.open_row.OpenRow.end_row.Given as goal

-- the rows so far have the items that the rows had when the loop began
abbrev pub invariant-loop-self : goal.invariant-loop-self
invariant-loop-self g l = record {
  items : l.self-inside.items ≡ l.initial.self-inside.items;
  start : l.self-inside.start ≡ l.initial.self-inside.start;
  ends : AreEnds 0 l.self-inside.ends.items l.self-inside.start;
  few : length l.self-inside.ends.items ≤ l.place;
  same : (k : ℕ) → row_at (rows_of 0 (take l.self-inside.start l.self-inside.items.items) l.self-inside.ends.items) k ≡ row_at (rows_of 0 (take l.initial.self-inside.start l.initial.self-inside.items.items) l.initial.self-inside.ends.items) k;
}

abbrev pub decreases-loop-self : goal.decreases-loop-self
decreases-loop-self g l = l.place - vec_len l.self-inside.ends
