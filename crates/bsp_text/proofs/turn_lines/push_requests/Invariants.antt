use Rattle.std.proofs.Common.{◌≡◌, ◌++◌, take}
use Rattle.std.specs.List.{flat_map}
use Rattle.bsp_text.specs.TurnLines.{get_line, pop_line, push_area_line, put_line, send_line}
use Rattle.bsp_text.proofs.turn_lines.push_requests.Given as goal

abbrev pub invariant-loop-get : goal.invariant-loop-get
invariant-loop-get l = l.text.items ≡ l.initial.text.items ++ flat_map get_line (take l.get-index l.turn.gets)

abbrev pub invariant-loop-area : goal.invariant-loop-area
invariant-loop-area l = l.text.items ≡ l.initial.text.items ++ flat_map push_area_line (take l.area-index l.turn.pushes)

abbrev pub invariant-loop-slot : goal.invariant-loop-slot
invariant-loop-slot l = l.text.items ≡ l.initial.text.items ++ flat_map pop_line (take l.slot-index l.turn.pops)

abbrev pub invariant-loop-index : goal.invariant-loop-index
invariant-loop-index l = l.text.items ≡ l.initial.text.items ++ flat_map put_line (take l.index l.turn.puts)

abbrev pub invariant-loop-place : goal.invariant-loop-place
invariant-loop-place l = l.text.items ≡ l.initial.text.items ++ flat_map send_line (take l.place l.turn.sends)
