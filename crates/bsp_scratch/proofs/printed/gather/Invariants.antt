use Rattle.std.proofs.Common.{◌≡◌, ◌<◌, ◌≤◌, [], ℕ, length}
use Rattle.bsp_model.specs.Columns.{row_at}
use Rattle.bsp_scratch.specs.Inside.Printed.{lines_in}
use Rattle.bsp_scratch.proofs.printed.gather.Given as goal

abbrev pub invariant-loop-pid : goal.invariant-loop-pid
invariant-loop-pid l = record {
  gathered : (p : ℕ) → p < l.pid → row_at l.all.rows p ≡ lines_in l.printed p;
  below : length l.all.rows ≤ l.pid;
  none : l.all.last ≡ [];
}
