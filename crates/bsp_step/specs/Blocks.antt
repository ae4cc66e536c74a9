-- Blocks of words: what is loaded of a memory at once, and the stores for which one call stands.
use Rattle.std.specs.Prelude.{ℕ, List, [], ◌∷◌, ◌++◌, Option, None, Some, ◌+◌, length, nat_le, if◌then◌else◌, slice_set, take, drop}
use Rattle.bsp_model.specs.Stores.{records}
use Rattle.bsp_step.specs.Context.{Context}
use Rattle.bsp_step.specs.Act.{Act, store}

-- the words from an address on, if all of them are there
abbrev pub words_at : List ℕ → ℕ → ℕ → Option (List ℕ)
words_at memory start len = if nat_le (start + len) (length memory) then Some (take len (drop start memory)) else None

-- stores of the words from an address on
abbrev pub stores : ℕ → List ℕ → List Act
stores start [] = []
stores start (word ∷ words) = store start word ∷ stores (start + 1) words

-- the memory after these stores
abbrev pub stored : List ℕ → ℕ → List ℕ → List ℕ
stored memory start [] = memory
stored memory start (word ∷ words) = stored (slice_set memory start word) (start + 1) words

-- the context after these stores, where none of them is refused
abbrev pub with_stored : Context → ℕ → List ℕ → Context
with_stored c start words = record c { memory = stored c.memory start words; stores = c.stores ++ records start words }
