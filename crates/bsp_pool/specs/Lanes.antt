-- The draws of a worker from the lanes. This profile's own.
use Rattle.std.specs.Prelude.{◌≡◌, ◌≢◌, ◌⊎◌, ℕ, ◌+◌, ◌*◌, ◌<◌, List, Some, min, slice_get, slice_index}
use Rattle.bsp_pool.specs.declared.lanes.Deal.{Deal}
use Rattle.bsp_pool.specs.Passes.{PassContent, drawn}

-- nothing was drawn, or a number that is of none of the lane's units
abbrev pub DrewNoUnit : ℕ → ℕ → PassContent → PassContent → Type 0
DrewNoUnit first count old new =
    (new ≡ old) ⊎ ((number : ℕ) × (new ≡ drawn old number) × ((unit : ℕ) → unit < count → number ≢ first + unit))

-- the number of this unit was drawn last at its lane
abbrev pub HasDrawn : Deal → ℕ → List PassContent → Type 0
HasDrawn deal unit hands =
    (lane : ℕ) × (place : ℕ) × (before : PassContent)
    × (unit ≡ min (lane * deal.a_lane) deal.units + place)
    × (slice_get hands lane ≡ Some (drawn before (slice_index deal.firsts lane + place)))
