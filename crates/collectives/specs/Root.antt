-- The root of a collective call.
use Rattle.std.specs.Prelude.{ℕ, slice_get, unwrap_or}
use Rattle.bsp_step.specs.ViewParts.{ViewParts}

-- Argument 1 is the root; where it is missing, process 0 is (this profile).
abbrev pub root_of : ViewParts → ℕ
root_of v = unwrap_or (slice_get v.args 1) 0
