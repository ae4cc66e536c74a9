use Rattle.std.proofs.Common.{◌≡◌, take}
use Rattle.bsp_table.specs.NextTable.{pushed_slot}
use Rattle.bsp_table.proofs.next.pushed.Given as goal

-- the areas of the processes so far
abbrev pub invariant-loop-pid : goal.invariant-loop-pid
invariant-loop-pid g l = l.areas ≡ pushed_slot (take l.pid (g.R.Registers.pushes l.all)) l.k
