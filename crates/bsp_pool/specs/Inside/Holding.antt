-- The number that a worker of a round holds.
use Rattle.std.specs.Prelude.{ℕ, Option, Some, None}
use Rattle.bsp_pool.specs.declared.round.Worker.{Worker}
use Rattle.bsp_pool.specs.declared.round.Worker.TheVariants.{Holding}

-- the number that a worker holds
abbrev pub number_of : Option Worker → Option ℕ
number_of (Some (Holding number)) = Some number
number_of _ = None
