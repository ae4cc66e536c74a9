-- The ranges in which stores are kept.
use Rattle.std.specs.Prelude.{ℕ, ◌+◌, ◌<◌, ◌≤◌, ◌≡◌, ◌≢◌, ◌==◌, List, [], ◌∷◌, ◌++◌, length, take, drop, if◌then◌else◌}
use Rattle.bsp_model.specs.declared.request.Store.{Store}
use Rattle.bsp_model.specs.declared.range.Range.{Range}
use Rattle.bsp_model.specs.Stores.{records}

-- the stores of ranges, whose words are these values in order
unfoldable pub stores_of : List Range → List ℕ → List Store
stores_of [] values = []
stores_of (r ∷ later) values = records r.start (take r.len values) ++ stores_of later (drop r.len values)

-- none of the ranges that follow goes on where this one ended
abbrev pub IsApart : Range → List Range → Type 0
IsApart r [] = Unit {0}
IsApart r (next ∷ later) = next.start ≢ r.start + r.len

-- Ranges that are not empty and lie apart, with a value for each of their words.
abbrev pub AreRanges : List Range → List ℕ → Type 0
AreRanges [] values = length values ≡ 0
AreRanges (r ∷ later) values = (0 < r.len) × (r.len ≤ length values) × IsApart r later × AreRanges later (drop r.len values)

-- how many words the last range has
abbrev pub last_len : List Range → ℕ
last_len [] = 0
last_len (r ∷ []) = r.len
last_len (r ∷ next ∷ later) = last_len (next ∷ later)

-- The ranges once so many words more are stored from an address on: the last one is longer where they go on behind it.
abbrev pub longer : List Range → ℕ → ℕ → List Range
longer [] start len = record { start = start; len = len } ∷ []
longer (r ∷ []) start len =
    if start == r.start + r.len then record { start = r.start; len = r.len + len } ∷ [] else r ∷ record { start = start; len = len } ∷ []
longer (r ∷ next ∷ later) start len = r ∷ longer (next ∷ later) start len

-- Words that are stored from an address on go on behind one range that goes without words of its own, or are the first.
abbrev pub GoOn : List Range → List ℕ → ℕ → Type 0
GoOn [] [] start = Unit {0}
GoOn (r ∷ []) [] start = start ≡ r.start + r.len
GoOn ranges values start = ⊥
