-- What two rows of a process, kept in two lists, stand for.
use Rattle.std.specs.Prelude.{ℕ, List, [], ◌∷◌}
use Rattle.bsp_model.specs.Columns.{row_at}

-- the two rows of a process
abbrev pub pair_at : {A B : Type 0} → (List (List A)) × (List (List B)) → ℕ → (List A) × (List B)
pair_at rows k = (row_at rows.0 k, row_at rows.1 k)

-- for each process what its two rows stand for
abbrev pub paired : {A B X : Type 0} → (List A → List B → List X) → List (List A) → List (List B) → List (List X)
paired f [] [] = []
paired f [] (b ∷ seconds) = f [] b ∷ paired f [] seconds
paired f (a ∷ firsts) [] = f a [] ∷ paired f firsts []
paired f (a ∷ firsts) (b ∷ seconds) = f a b ∷ paired f firsts seconds
