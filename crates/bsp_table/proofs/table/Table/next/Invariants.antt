use Rattle.std.proofs.Common.{◌≡◌, ◌++◌, map}
use Rattle.std.specs.List.{range_with_len}
use Rattle.bsp_table.specs.NextTable.{pushed_slot}
use Rattle.bsp_table.proofs.table.Table.next.Given as goal

-- after the slots that are kept, one for each k so far
abbrev pub invariant-loop-k : goal.invariant-loop-k
invariant-loop-k g l = l.slots ≡ l.initial.slots ++ map (pushed_slot (g.R.Registers.pushes l.all)) (range_with_len 0 l.k)
