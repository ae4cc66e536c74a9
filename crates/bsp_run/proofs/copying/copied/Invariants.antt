use Rattle.std.proofs.Common.{◌≡◌, take, length, vec_len}
use Rattle.std.specs.Vec.{vec_capacity}
use Rattle.bsp_run.proofs.copying.copied.Given as goal

abbrev pub invariant-loop-item : goal.invariant-loop-item
invariant-loop-item g l = record {
  all : l.all.items ≡ take l.item-index l.items;
  count : vec_len l.all ≡ l.item-index;
  room : vec_capacity l.all ≡ length l.items;
}
