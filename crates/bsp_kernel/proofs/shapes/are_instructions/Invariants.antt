use Rattle.std.proofs.Common.{◌≡◌, map, drop}
use Rattle.std.specs.List.{list_all}
use Rattle.toml.specs.View.{view}
use Rattle.bsp_kernel.specs.Shapes.{is_instruction}
use Rattle.bsp_kernel.proofs.shapes.are_instructions.Given as goal

-- what is left to test decides
abbrev pub invariant-loop-value : goal.invariant-loop-value
invariant-loop-value l =
    list_all (is_instruction l.places) (map view (drop l.value-index l.values)) ≡ list_all (is_instruction l.places) (map view l.values)
