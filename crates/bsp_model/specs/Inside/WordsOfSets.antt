-- That the bits of a set give its word back, so that a set may be copied as its two fields are.
use Rattle.std.specs.Prelude.{ℕ, zero, suc, ◌+◌, ◌*◌, ◌/◌, ◌%◌, ◌<◌, ◌≡◌, Bool, true, false, cond, List, [], ◌∷◌, length, refl}
use Rattle.std.proofs.Common.{get_or, eqb, inl, inr, sym, ap, ◌∙◌, arith}
use Rattle.std.specs.Int.{bit_at}
use Rattle.std.proofs.lemmas.Bool.{cases_lt}
use Rattle.std.proofs.lemmas.List.{get_or_past}
use Rattle.std.proofs.lemmas.List.FromFn.{length-map-range_with_len, get_or-map-range_with_len}
use Rattle.std.proofs.lemmas.Nat.Bits.{bit_at_lowest, bit_at-suc, bit_at-zero, bit_at-lt, same_from_bits}
use Rattle.bsp_model.specs.Inside.Bits.{has_bit, set_of, word_of, AreBitsOf}

pub length-set_of : (count word : ℕ) → length (set_of count word) ≡ count
length-set_of count word = length-map-range_with_len (has_bit word) 0 count

pub in_range : (count word p : ℕ) → p < count → get_or (set_of count word) p false ≡ has_bit word p
in_range count word p l = get_or-map-range_with_len (has_bit word) 0 count p p false l (omega arith)

-- A process is in the set where its bit is set.
pub in_set : (count word p : ℕ) → AreBitsOf count word → get_or (set_of count word) p false ≡ has_bit word p
in_set count word p are = elim (cases_lt p count) [
  | inl l ↦ in_range count word p l
  | inr l ↦ get_or_past (set_of count word) p false (omega (arith, l, length-set_of count word)) ∙ sym (are.clear p l)
]

-- The word of a set has its bits, and no others.

abbrev bit_of : Bool → ℕ
bit_of b = cond b 1 0

lowest : (b : Bool) (n : ℕ) → (bit_of b + 2 * n) % 2 ≡ bit_of b
lowest true n = omega arith
lowest false n = omega arith

above : (b : Bool) (n : ℕ) → (bit_of b + 2 * n) / 2 ≡ n
above true n = omega arith
above false n = omega arith

bit_at-word_of : (s : List Bool) (p : ℕ) → bit_at (word_of s) p ≡ bit_of (get_or s p false)
unfolding word_of
bit_at-word_of [] p = bit_at-zero p
bit_at-word_of (b ∷ s) zero = bit_at_lowest (bit_of b + 2 * word_of s) ∙ lowest b (word_of s)
bit_at-word_of (b ∷ s) (suc p) = bit_at-suc (bit_of b + 2 * word_of s) p ∙ ap (λ n. bit_at n p) (above b (word_of s)) ∙ bit_at-word_of s p

tested : (n : ℕ) → n < 2 → bit_of (eqb n 1) ≡ n
tested zero l = refl
tested (suc zero) l = refl
tested (suc (suc n)) l = absurd (omega (arith, l))

bit_of-has_bit : (word p : ℕ) → bit_of (has_bit word p) ≡ bit_at word p
unfolding has_bit
bit_of-has_bit word p = tested (bit_at word p) (bit_at-lt word p)

word_of-set_of : (count word : ℕ) → AreBitsOf count word → word_of (set_of count word) ≡ word
word_of-set_of count word are = same_from_bits (word_of (set_of count word)) word
    (λ p. bit_at-word_of (set_of count word) p ∙ ap bit_of (in_set count word p are) ∙ bit_of-has_bit word p)

-- A set gives its fields back.
pub set_again : {A : Type 0} (make : ℕ → ℕ → A) (count word : ℕ) → AreBitsOf count word → make (length (set_of count word)) (word_of (set_of count word)) ≡ make count word
set_again make count word are = ap (λ n. make n (word_of (set_of count word))) (length-set_of count word) ∙ ap (make count) (word_of-set_of count word are)
