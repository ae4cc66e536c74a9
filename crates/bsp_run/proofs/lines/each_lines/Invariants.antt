use Rattle.std.specs.Vec.{vec_capacity}
use Rattle.std.proofs.Common.{vec_len, ◌≡◌}
use Rattle.bsp_deliver.specs.Requests.{each_below}
use Rattle.bsp_run.specs.Inside.Lines.{lines_from}
use Rattle.bsp_run.proofs.lines.each_lines.Given as goal

abbrev pub invariant-loop-pid : goal.invariant-loop-pid
invariant-loop-pid l = record {
  all : l.each.items ≡ each_below l.pid (lines_from l.before l.marks l.all);
  count : vec_len l.each ≡ l.pid;
  room : vec_capacity l.each ≡ l.nprocs;
}
