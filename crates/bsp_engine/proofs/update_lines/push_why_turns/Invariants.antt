use Rattle.std.proofs.Common.{◌≡◌, ◌++◌, option_map, take}
use Rattle.std.specs.List.{flat_map}
use Rattle.bsp_engine.specs.WhyLines.{why_turn_line}
use Rattle.bsp_engine.proofs.update_lines.push_why_turns.Given as goal

abbrev pub invariant-loop-place : goal.invariant-loop-place
invariant-loop-place g l =
    l.text.items ≡ l.initial.text.items ++ flat_map (why_turn_line (g.P.Program.looks l.program) (option_map (λ h. h.now) l.old) l.new) (take l.place-index l.places)
