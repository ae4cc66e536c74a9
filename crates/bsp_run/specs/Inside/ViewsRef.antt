-- What the processes see, if there is such a superstep.
use Rattle.std.specs.Prelude.{List, [], Option, None, Some}
use Rattle.bsp_step.specs.ViewParts.{ViewParts}

abbrev pub views_there : Option (List ViewParts) → List ViewParts
views_there None = []
views_there (Some views) = views
