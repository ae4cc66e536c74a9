-- Lists in which items are replaced.
use Rattle.std.specs.Prelude.{ℕ, ◌<◌, List, [], ◌∷◌, length, slice_index, slice_set}

-- The items, with new ones at these places.
abbrev pub replaced : {X : Type 0} → List X → List ℕ → List X → List X
replaced items [] new = items
replaced items (p ∷ ps) [] = items
replaced items (p ∷ ps) (x ∷ xs) = replaced (slice_set items p x) ps xs

-- each place is above the one before it
abbrev pub IsAscending : List ℕ → Type 0
IsAscending ps = (j k : ℕ) → j < k → k < length ps → slice_index ps j < slice_index ps k
