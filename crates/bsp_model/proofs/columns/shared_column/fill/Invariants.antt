use Rattle.std.proofs.Common.{◌≡◌, ◌≤◌, ◌-◌, ℕ, length, vec_len}
use Rattle.bsp_model.specs.Columns.{row_at}
use Rattle.bsp_model.proofs.columns.shared_column.fill.Given as goal

-- the lists so far are those that there were when the loop began
abbrev pub invariant-loop-rows : goal.invariant-loop-rows
invariant-loop-rows g l = record {
  few : length l.rows.items ≤ l.count;
  same : (k : ℕ) → row_at l.rows.items k ≡ row_at l.initial.rows.items k;
}

abbrev pub decreases-loop-rows : goal.decreases-loop-rows
decreases-loop-rows g l = l.count - vec_len l.rows
