use Rattle.std.proofs.Common.{◌≡◌, ◌++◌, take}
use Rattle.std.specs.List.{flat_map}
use Rattle.bsp_text.specs.TurnLines.{printed_line}
use Rattle.bsp_text.proofs.turn_lines.push_turn.Given as goal

abbrev pub invariant-loop-place : goal.invariant-loop-place
invariant-loop-place l = l.text.items ≡ l.initial.text.items ++ flat_map printed_line (take l.place l.turn.lines)
