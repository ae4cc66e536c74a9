-- The view of a pass: what it knows of itself. This profile's own.
use Rattle.std.specs.Prelude.{ℕ, List, []}

-- its units, and the numbers that it has drawn or taken in, in order
pub record View : Type 0 where
  pub units : ℕ
  pub numbers : List ℕ

-- the view of a pass that knows nothing
abbrev pub no_view : View
no_view = record { units = 0; numbers = [] }
