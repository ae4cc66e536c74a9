-- Lines of a report: words and numbers with a space between two of them, and LF at the end (this profile).
use Rattle.std.specs.Prelude.{ℕ, ◌+◌, List, [], ◌∷◌, ◌++◌, decimal}
use Rattle.std.specs.List.{flat_map}

-- a number, after a space
abbrev pub field : ℕ → List ℕ
field number = 32 ∷ decimal number

-- each number, after a space
abbrev pub fields : List ℕ → List ℕ
fields numbers = flat_map field numbers

-- a word, numbers, and LF
abbrev pub line : List ℕ → List ℕ → List ℕ
line word numbers = (word ++ fields numbers) ++ 10 ∷ []

-- a piece for each item, which knows the item's number; n is that of the first
abbrev pub numbered : {A : Type 0} → (ℕ → A → List ℕ) → ℕ → List A → List ℕ
numbered piece n [] = []
numbered piece n (x ∷ xs) = piece n x ++ numbered piece (n + 1) xs
