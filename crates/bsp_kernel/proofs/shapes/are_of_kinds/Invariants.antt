use Rattle.std.proofs.Common.{◌≡◌, map, drop}
use Rattle.toml.specs.View.{view}
use Rattle.bsp_kernel.specs.Shapes.{are_of_kinds}
use Rattle.bsp_kernel.proofs.shapes.are_of_kinds.Given as goal

-- what is left to test decides
abbrev pub invariant-loop-i : goal.invariant-loop-i
invariant-loop-i l =
    are_of_kinds l.kinds l.places (map view l.values) ≡ are_of_kinds (drop l.i l.kinds) l.places (map view (drop l.i l.values))
