-- What contracts see of a pass: its deck, and what its view in Inside/Claim.antt has. This profile's own.
use Rattle.std.specs.Prelude.{ℕ, ◌+◌, List, [], ◌∷◌, ◌++◌, length}
use Rattle.atomic_table.specs.Seated.{TableId}
use Rattle.bsp_pool.specs.Numbers.{units_kept, units_given}

-- the deck that it is of, its units, and its numbers in order
pub record PassContent : Type 0 where
  pub deck : TableId
  pub units : ℕ
  pub numbers : List ℕ

abbrev pub pass_of : TableId → ℕ → List ℕ → PassContent
pass_of d u xs = record { deck = d; units = u; numbers = xs }

-- after a draw of this number
abbrev pub drawn : PassContent → ℕ → PassContent
drawn p number = record p { numbers = p.numbers ++ number ∷ [] }

-- what a share leaves of the giver
abbrev pub kept : PassContent → PassContent
kept p = record p { units = units_kept p.units (length p.numbers) }

-- what a share makes of it
abbrev pub given : PassContent → PassContent
given p = pass_of p.deck (units_given p.units (length p.numbers)) []

-- both of two passes of a deck
abbrev pub joined : PassContent → PassContent → PassContent
joined p q = pass_of p.deck (p.units + q.units) (p.numbers ++ q.numbers)
