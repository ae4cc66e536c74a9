-- Memories of several processes: a column of the full pages of each, and beside it the words behind those.
use Rattle.std.specs.Prelude.{ℕ, ◌+◌, ◌*◌, ◌<◌, List, length, map}
use Rattle.std.specs.List.{range_with_len}
use Rattle.bsp_model.specs.declared.page.TheConstants.{WORDS_OF_A_PAGE}
use Rattle.bsp_model.specs.Columns.{row_at}
use Rattle.bsp_model.specs.Inside.Pages.{words_of, HasPages}

-- how many words are in these full pages and behind them
abbrev pub count_of : List (List ℕ) → List ℕ → ℕ
count_of full last = WORDS_OF_A_PAGE * length full + length last

-- the words of these full pages and those behind them
abbrev pub memory_of : List (List ℕ) → List ℕ → List ℕ
memory_of full last = words_of full last (count_of full last)

-- The words of each process that has last words. A process whose full pages don't stand has none.
unfoldable pub memories_of : List (List (List ℕ)) → List (List ℕ) → List (List ℕ)
memories_of pages lasts = map (λ k. memory_of (row_at pages k) (row_at lasts k)) (range_with_len 0 (length lasts))

-- All words of each process can be counted.
abbrev pub ArePaged : List (List (List ℕ)) → List (List ℕ) → Type 0
ArePaged pages lasts = (k : ℕ) → k < length lasts → HasPages (row_at pages k) (row_at lasts k) (count_of (row_at pages k) (row_at lasts k))
