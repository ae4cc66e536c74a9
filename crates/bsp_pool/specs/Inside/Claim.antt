-- The rule between any two steps on the claim word, and what each kind of step does to the view of the pass that makes it.
-- Passes.antt says the same of passes, as callers see them: a view doesn't know its deck. This profile's own.
use Rattle.std.specs.Prelude.{◌≡◌, ℕ, ◌+◌, ◌*◌, ◌<◌, ◌≤◌, nat_lt, if◌then◌else◌, List, [], ◌∷◌, ◌++◌, length, slice_index, All}
use mathlib.Core.Option.{some}
use lib.ListN.{get_elem?}
use Rattle.bsp_pool.specs.Inside.Views.{View}
use Rattle.bsp_pool.specs.Numbers.{all_units, numbers_a_unit, occurrences, units_kept, units_given}

abbrev pub view_of : ℕ → List ℕ → View
view_of units numbers = record { units = units; numbers = numbers }

-- f of each view, added up
abbrev pub total : (View → ℕ) → List View → ℕ
total f [] = 0
total f (v ∷ vs) = f v + total f vs

-- 1 for a number below n, and 0 for any other
abbrev pub once_below : ℕ → ℕ → ℕ
once_below x n = if nat_lt x n then 1 else 0

-- the place of the claim word among the words of its table, and how many there are
abbrev pub claim_place : ℕ
claim_place = 8

abbrev pub table_words : ℕ
table_words = 16

-- Each number below the claim word stands in exactly one view, once, and no other number in any. The units of all
-- views add up to 2^31, and a view has at most 2^32 numbers for each of its units.
pub record IsClaimed (words : List ℕ) (views : List View) : Type 0 where
  pub wide : length words ≡ table_words
  pub units : total (λ v. v.units) views ≡ all_units
  pub once : (x : ℕ) → total (λ v. occurrences x v.numbers) views ≡ once_below x (slice_index words claim_place)
  pub many : total (λ v. length v.numbers) views ≡ slice_index words claim_place
  pub room : (seat : ℕ) (v : View) → get_elem? views seat ≡ some v → length v.numbers ≤ v.units * numbers_a_unit

-- a draw gives the next number, which is above all that the pass has
pub record Draws (v : View) (found : ℕ) (w : View) : Type 0 where
  pub above : All (λ x. x < found) v.numbers
  pub after : w ≡ view_of v.units (v.numbers ++ found ∷ [])

-- the numbers of the pass are distinct and below the word, and all of them where it has all units
pub record Looks (v : View) (found : ℕ) (w : View) : Type 0 where
  pub once : (x : ℕ) → occurrences x v.numbers ≤ once_below x found
  pub whole : v.units ≡ all_units → (x : ℕ) → occurrences x v.numbers ≡ once_below x found
  pub after : w ≡ v

abbrev pub kept_view : View → View
kept_view v = view_of (units_kept v.units (length v.numbers)) v.numbers

abbrev pub given_view : View → View
given_view v = view_of (units_given v.units (length v.numbers)) []

abbrev pub joined_view : View → View → View
joined_view v w = view_of (v.units + w.units) (v.numbers ++ w.numbers)
