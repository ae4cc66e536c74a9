-- The distances of programs that double their reach in each superstep.
use Rattle.std.specs.Prelude.{ℕ, ◌-◌, ◌^◌, min}

-- The distance that is bridged in a superstep from 1 (this profile).
abbrev pub distance : ℕ → ℕ
distance step = 2 ^ (min step 8 - 1)
