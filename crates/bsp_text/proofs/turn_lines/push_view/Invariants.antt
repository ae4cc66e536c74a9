use Rattle.std.proofs.Common.{◌≡◌, ◌++◌, take}
use Rattle.std.specs.List.{flat_map}
use Rattle.bsp_text.specs.Lines.{numbered}
use Rattle.bsp_text.specs.ViewLines.{message_line, slot_line}
use Rattle.bsp_text.proofs.turn_lines.push_view.Given as goal

abbrev pub invariant-loop-place : goal.invariant-loop-place
invariant-loop-place l = l.text.items ≡ l.initial.text.items ++ flat_map message_line (take l.place l.view.queue)

abbrev pub invariant-loop-slot : goal.invariant-loop-slot
invariant-loop-slot l = l.text.items ≡ l.initial.text.items ++ numbered (slot_line l.view.pid) 0 (take l.slot l.view.table)
