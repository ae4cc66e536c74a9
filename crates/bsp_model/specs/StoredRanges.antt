-- The ranges that the stores of a turn fill (this profile).
use Rattle.std.specs.Prelude.{ℕ, ◌+◌, ◌==◌, List, [], ◌∷◌, if◌then◌else◌}
use Rattle.bsp_model.specs.declared.request.Store.{Store}
use Rattle.bsp_model.specs.declared.range.Range.{Range}

-- a store before ranges: in the first of them, where that goes on behind it, else in a range of its own
abbrev pub range_before : ℕ → List Range → List Range
range_before addr [] = record { start = addr; len = 1 } ∷ []
range_before addr (r ∷ later) =
    if r.start == addr + 1 then record { start = addr; len = r.len + 1 } ∷ later else record { start = addr; len = 1 } ∷ r ∷ later

-- the ranges of words that were stored one behind the other, in order
abbrev pub ranges_stored : List Store → List Range
ranges_stored [] = []
ranges_stored (s ∷ later) = range_before s.addr (ranges_stored later)
