-- Rows that lie one behind the other in one list.
use Rattle.std.specs.Prelude.{ℕ, ◌≡◌, ◌≤◌, List, [], ◌∷◌, slice_range}

-- The items from a place on, cut where rows end: the first row goes from there to the first end, the next one from there to the next end.
abbrev pub rows_of : {X : Type 0} → ℕ → List X → List ℕ → List (List X)
rows_of start items [] = []
rows_of start items (end ∷ ends) = slice_range items start end ∷ rows_of end items ends

-- The ends of rows ascend from a place on, up to the number of items.
abbrev pub AreEnds : ℕ → List ℕ → ℕ → Type 0
AreEnds start [] count = start ≡ count
AreEnds start (end ∷ ends) count = (start ≤ end) × AreEnds end ends count
