-- What a read brings, as private functions say it.
use Rattle.std.specs.Prelude.{◌≡◌, ℕ, List, ◌++◌, Option}
use Rattle.std.specs.Io.KnownBytes.{Consumes}

-- what was read before, and then bytes that the source lost
abbrev pub Gains : Option (List ℕ) → Option (List ℕ) → List ℕ → List ℕ → Type 0
Gains old new before after = (piece : List ℕ) × (after ≡ before ++ piece) × Consumes old new piece
