use Rattle.std.proofs.Common.{◌≡◌, ◌+◌, ◌≤◌, ◌++◌, length, vec_len}
use Rattle.std.specs.Vec.{vec_capacity}
use Rattle.std.specs.Vec.Iter.{into_iter_items}
use Rattle.bsp_pool.specs.Inside.Turning.{merged_of}
use Rattle.bsp_pool.proofs.turning.merged.Given as goal

abbrev pub invariant-loop-output : goal.invariant-loop-output
invariant-loop-output g l = record {
  can_next : (goal.iterator-loop-output g).can_next l.output-iterator;
  is_finite : (goal.iterator-loop-output g).is_finite l.output-iterator;
  room : vec_len l.outputs + length (into_iter_items l.output-iterator) ≤ vec_capacity l.outputs;
  so_far : l.outputs.items ++ merged_of (into_iter_items l.output-iterator) (into_iter_items l.others) ≡ merged_of l.fn.kept.items l.fn.missing.made.items;
}
