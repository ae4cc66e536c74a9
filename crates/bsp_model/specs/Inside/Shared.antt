-- The items of a list that its copies share.
use Rattle.std.specs.Prelude.{List, [], Option, None, Some}
use Rattle.std.specs.Arc.{arc_value}
use Rattle.std.specs.declared.sync.Arc.{Arc}
use Rattle.std.specs.declared.vec.Vec.{Vec}

-- No memory is kept for the empty list.
abbrev pub items_of : {T A B : Type 0} → Option (Arc (Vec T A) B) → List T
items_of None = []
items_of (Some items) = (arc_value items).items
