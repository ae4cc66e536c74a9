use Rattle.std.proofs.Common.{◌≡◌, ◌≤◌, ◌++◌}
use Rattle.std.specs.Prelude.{slice_range}
use Rattle.bsp_model.proofs.lasts.Lasts.append_range.Given as goal

-- the words so far are put behind the others, and the lists have not changed
abbrev pub invariant-loop-number : goal.invariant-loop-number
invariant-loop-number l = record {
  low : l.fn.from ≤ l.number;
  high : l.number ≤ l.to;
  own : l.self-inside.own ≡ l.initial.self-inside.own;
  count : l.self-inside.count ≡ l.initial.self-inside.count;
  rows : l.self-inside.rows ≡ l.initial.self-inside.rows ++ slice_range l.more l.fn.from l.number;
}
