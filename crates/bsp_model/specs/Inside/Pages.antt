-- The pages in which the words of a memory are kept, and the words behind them.
use Rattle.std.specs.Prelude.{ℕ, ◌+◌, ◌*◌, ◌/◌, ◌%◌, ◌^◌, ◌-◌, ◌<◌, ◌≡◌, List, [], length, map, get_or, nat_le, nat_lt, ◌&&◌, if◌then◌else◌}
use Rattle.std.specs.List.{range_with_len}
use Rattle.bsp_model.specs.declared.page.TheConstants.{WORDS_OF_A_PAGE}

-- The word at an address: its page has the number address / 64, and its place there is address % 64 (this profile).
unfoldable pub paged_word : List (List ℕ) → ℕ → ℕ
paged_word pages address = get_or (get_or pages (address / WORDS_OF_A_PAGE) []) (address % WORDS_OF_A_PAGE) 0

-- The word at an address of a memory: in a full page, or behind all of them.
unfoldable pub word_in : List (List ℕ) → List ℕ → ℕ → ℕ
word_in full last address =
    if nat_lt address (WORDS_OF_A_PAGE * length full) then paged_word full address else get_or last (address - WORDS_OF_A_PAGE * length full) 0

-- The words of the full pages and those behind them, so many of them.
unfoldable pub words_of : List (List ℕ) → List ℕ → ℕ → List ℕ
words_of full last len = map (word_in full last) (range_with_len 0 len)

-- So many words are in the full pages and behind them, and they can be counted.
pub record HasPages (full : List (List ℕ)) (last : List ℕ) (len : ℕ) : Type 0 where
  pub count : len ≡ WORDS_OF_A_PAGE * length full + length last
  pub fits : len < 2 ^ 64

-- The word at an address after such a write.
abbrev pub word_after : (ℕ → ℕ) → ℕ → List ℕ → ℕ → ℕ
word_after word start words address = if nat_le start address && nat_lt address (start + length words) then get_or words (address - start) 0 else word address

-- In these pages the words from an address on are replaced, and no others.
abbrev pub AreWritten : List (List ℕ) → ℕ → List ℕ → List (List ℕ) → Type 0
AreWritten old start words new = (i : ℕ) → paged_word new i ≡ word_after (paged_word old) start words i
