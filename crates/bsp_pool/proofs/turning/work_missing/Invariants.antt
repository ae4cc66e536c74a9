use Rattle.std.proofs.Common.{◌≡◌, ◌≤◌, length, take, vec_len}
use Rattle.std.specs.Vec.{vec_capacity}
use Rattle.bsp_pool.specs.Inside.Turning.{missing_of}
use Rattle.bsp_pool.proofs.turning.work_missing.Given as goal

abbrev pub invariant-loop-number : goal.invariant-loop-number
invariant-loop-number g l = record {
  many : vec_len l.made ≡ l.number;
  room : length l.inputs ≤ vec_capacity l.made;
  made : l.made.items ≡ take l.number (missing_of (g.W.Work.does l.work) l.inputs l.kept);
}
