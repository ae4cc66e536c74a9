-- When two areas, or two tables, are equal, as tests (this profile).
use Rattle.std.specs.Prelude.{Bool, List, ◌==◌, ◌&&◌}
use Rattle.std.specs.Cmp.Lexicographic.{pointwise}
use Rattle.bsp_table.specs.declared.area.Area.{Area}

abbrev pub same_area : Area → Area → Bool
same_area a b = (a.start == b.start) && (a.len == b.len)

abbrev pub same_table : List (List Area) → List (List Area) → Bool
same_table = pointwise (pointwise same_area)
