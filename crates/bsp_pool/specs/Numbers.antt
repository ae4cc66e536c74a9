-- Lists of numbers, and the units of a pass. Nothing here names a type of `src/`. All of it is this profile's own.
use Rattle.std.specs.Prelude.{ℕ, ◌+◌, ◌-◌, ◌*◌, ◌≤◌, ◌==◌, ◌&&◌, nat_le, if◌then◌else◌, Bool, List, [], ◌∷◌}

-- the units of all passes of a deck together: 2^31
abbrev pub all_units : ℕ
all_units = 2147483648

-- how many numbers a pass may have for each of its units: 2^32
abbrev pub numbers_a_unit : ℕ
numbers_a_unit = 4294967296

-- how often x stands in the list
abbrev pub occurrences : ℕ → List ℕ → ℕ
occurrences x [] = 0
occurrences x (y ∷ ys) = (if y == x then 1 else 0) + occurrences x ys

-- no number stands twice
abbrev pub IsDistinct : List ℕ → Type 0
IsDistinct xs = (x : ℕ) → occurrences x xs ≤ 1

-- no number stands in both lists, nor twice in one
abbrev pub AreApart : List ℕ → List ℕ → Type 0
AreApart xs ys = (x : ℕ) → occurrences x xs + occurrences x ys ≤ 1

-- whether a pass with so many units and numbers can give one unit away
abbrev pub can_give : ℕ → ℕ → Bool
can_give units numbers = nat_le 2 units && nat_le numbers ((units - 1) * numbers_a_unit)

-- the units that it keeps at a share
abbrev pub units_kept : ℕ → ℕ → ℕ
units_kept units numbers = if can_give units numbers then units - 1 else units

-- the units that it gives at a share
abbrev pub units_given : ℕ → ℕ → ℕ
units_given units numbers = if can_give units numbers then 1 else 0
