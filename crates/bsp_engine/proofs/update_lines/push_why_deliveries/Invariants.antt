use Rattle.std.proofs.Common.{◌≡◌, ◌++◌, option_map, take}
use Rattle.std.specs.List.{flat_map}
use Rattle.bsp_engine.specs.WhyLines.{why_delivery_line}
use Rattle.bsp_engine.proofs.update_lines.push_why_deliveries.Given as goal

abbrev pub invariant-loop-place : goal.invariant-loop-place
invariant-loop-place l =
    l.text.items ≡ l.initial.text.items ++ flat_map (why_delivery_line (option_map (λ h. h.now) l.old) l.new) (take l.place-index l.places)
