-- A set of processes by the bits of a word: no public contract speaks of them.
use Rattle.std.specs.Prelude.{ℕ, ◌+◌, ◌*◌, ◌≤◌, ◌≡◌, ◌≢◌, Bool, false, true, List, [], ◌∷◌, map, nat_eq, if◌then◌else◌}
use Rattle.std.specs.List.{range_with_len}
use Rattle.std.specs.Int.{bit_at}
use Rattle.bsp_model.specs.Limits.{most_processes}

-- whether the bit of a process is set
unfoldable pub has_bit : ℕ → ℕ → Bool
has_bit word p = nat_eq (bit_at word p) 1

-- the set of so many processes that a word is
abbrev pub set_of : ℕ → ℕ → List Bool
set_of count word = map (has_bit word) (range_with_len 0 count)

-- the word that a set is
unfoldable pub word_of : List Bool → ℕ
word_of [] = 0
word_of (b ∷ bs) = (if b then 1 else 0) + 2 * word_of bs

-- There are no more processes than there may be, and no other bit is set.
pub record AreBitsOf (count word : ℕ) : Type 0 where
  pub few : count ≤ most_processes
  pub clear : (p : ℕ) → count ≤ p → has_bit word p ≡ false

-- one bit more
pub record IsWithBit (before after process : ℕ) : Type 0 where
  pub set : has_bit after process ≡ true
  pub others : (p : ℕ) → p ≢ process → has_bit after p ≡ has_bit before p
