-- The number of workers that the matches of the words give.
use Rattle.std.specs.Prelude.{ℕ, ◌&&◌, nat_le, Option, Some, None, if◌then◌else◌}
use Rattle.bsp_model.specs.Limits.{most_workers}

-- a number from 1 to the most workers, else 1
abbrev pub number_or_1 : Option ℕ → ℕ
number_or_1 None = 1
number_or_1 (Some n) = if nat_le 1 n && nat_le n most_workers then n else 1
