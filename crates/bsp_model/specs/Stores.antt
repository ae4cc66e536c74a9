-- The stores of a turn.
use Rattle.std.specs.Prelude.{ℕ, List, [], ◌∷◌, ◌+◌, map, slice_set}
use Rattle.bsp_model.specs.declared.request.Store.{Store}

-- stores of the words from an address on
abbrev pub records : ℕ → List ℕ → List Store
records start [] = []
records start (word ∷ words) = record { addr = start; value = word } ∷ records (start + 1) words

-- the words that were stored, in order
abbrev pub words_stored : List Store → List ℕ
words_stored stores = map (λ s. s.value) stores

-- The memory on which these stores are made again, in order (this profile).
abbrev pub made_again : List ℕ → List Store → List ℕ
made_again memory [] = memory
made_again memory (s ∷ later) = made_again (slice_set memory s.addr s.value) later
