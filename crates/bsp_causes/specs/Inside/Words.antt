-- Words of a piece of two memories: what private functions promise.
use Rattle.std.specs.Prelude.{ℕ, ◌-◌, Bool, ◌==◌, ◌&&◌, not, List, filter, length, slice_index}
use Rattle.std.specs.List.{range_with_len}

-- the piece begins at the address first
abbrev pub other_words_from : (ℕ → Bool) → ℕ → List ℕ → List ℕ → List ℕ
other_words_from looks first old new =
    filter (λ a. looks a && not (slice_index old (a - first) == slice_index new (a - first))) (range_with_len first (length old))
