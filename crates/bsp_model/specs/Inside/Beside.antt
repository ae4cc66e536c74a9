-- Stores that are kept beside the memory that their turn left. Where they are one range, whose words stand in that memory, the range is kept
-- alone, and its words are those of the memory.
use Rattle.std.specs.Prelude.{ℕ, List, [], ◌∷◌, take, drop}
use Rattle.bsp_model.specs.declared.request.Store.{Store}
use Rattle.bsp_model.specs.declared.range.Range.{Range}
use Rattle.bsp_model.specs.Columns.{row_at}
use Rattle.bsp_model.specs.Inside.Ranges.{stores_of, AreRanges}

-- the words of ranges: those that are kept, but for a range without any those that the memory has there
abbrev pub words_beside : List Range → List ℕ → List ℕ → List ℕ
words_beside (r ∷ []) [] memory = take r.len (drop r.start memory)
words_beside ranges values memory = values

-- the stores beside a memory, from their ranges and the words that are kept
abbrev pub stores_in : (List Range) × (List ℕ) → List ℕ → List Store
stores_in kept memory = stores_of kept.0 (words_beside kept.0 kept.1 memory)

-- The ranges have all their words beside the memory.
abbrev pub HaveWords : (List Range) × (List ℕ) → List ℕ → Type 0
HaveWords kept memory = AreRanges kept.0 (words_beside kept.0 kept.1 memory)

-- the stores of a process beside its memory, from the ranges of all and the words that are kept
abbrev pub stores_beside : (List (List Range)) × (List (List ℕ)) → ℕ → List ℕ → List Store
stores_beside rows k memory = stores_in (row_at rows.0 k, row_at rows.1 k) memory

-- The ranges of a process have all their words beside its memory.
abbrev pub AreBeside : (List (List Range)) × (List (List ℕ)) → ℕ → List ℕ → Type 0
AreBeside rows k memory = HaveWords (row_at rows.0 k, row_at rows.1 k) memory
