use Rattle.std.proofs.Common.{◌≡◌}
use Rattle.bsp_table.specs.Table.{newest_under, newest_below}
use Rattle.bsp_table.proofs.table.Table.find_under.Given as goal

-- the answer is among the slots that are left
abbrev pub invariant-loop-slot : goal.invariant-loop-slot
invariant-loop-slot l = newest_under l.self l.pid l.start l.popped ≡ newest_below l.self l.pid l.start l.popped l.slot
