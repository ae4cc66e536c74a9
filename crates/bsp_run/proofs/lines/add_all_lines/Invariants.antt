use Rattle.std.proofs.Common.{◌≡◌, ◌≤◌, [], length, map}
use Rattle.bsp_run.specs.Inside.Lines.{AreGathered}
use Rattle.bsp_run.proofs.lines.add_all_lines.Given as goal

abbrev pub invariant-loop-pid : goal.invariant-loop-pid
invariant-loop-pid l = record {
  gathered : AreGathered l.before l.marks (map (λ o. o.now) l.turns) l.pid l.all.rows;
  below : length l.all.rows ≤ l.pid;
  none : l.all.last ≡ [];
}
