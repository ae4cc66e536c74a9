-- Sets of processes as the bits of a word.
use Rattle.std.proofs.Common.{w64, ◌≡◌, ◌≢◌, ◌<◌, ◌≤◌, ◌+◌, ◌-◌, ◌*◌, ◌/◌, ◌%◌, ◌^◌, ℕ, zero, suc, max, Bool, true, false, ◌||◌, [], ◌∷◌, length, get_or, set, replicate, eqb, inl, inr, refl, sym, ap, ◌∙◌, arith}
use Rattle.std.specs.Int.{bit_at, trailing_zeros}
use Rattle.std.specs.Int.RustNames.{bit_or}
use lib.Bits.{bit_and}
use lib.Pow.{pow-add}
use Rattle.std.proofs.Math.Nat.{div-div-eq-div-mul, div-le_self}
use Rattle.std.proofs.lemmas.Bool.{cases_lt, cases_eq, false≢true}
use Rattle.std.proofs.lemmas.List.{ext_get_or, length-set, get_or-set_same, get_or-set_other, get_or-replicate, length-replicate}
use Rattle.std.proofs.lemmas.List.FromFn.{length-map-range_with_len, get_or-map-range_with_len}
use Rattle.std.proofs.lemmas.Nat.Bits.{shr_and_one, bit_at-zero, bit_at-lt, bit_at_above, bit_at_or, bit_at_set_same, bit_at_set_other, bit_at_ones, bit_at_ones_above, bit_at-trailing_zeros}
use Rattle.bsp_model.specs.ProcessSet.{union, processes_from}
use Rattle.bsp_model.specs.Inside.Bits.{has_bit, set_of, AreBitsOf, IsWithBit}
use Rattle.bsp_model.specs.Inside.WordsOfSets.{length-set_of, in_range, in_set}
use Rattle.bsp_model.proofs.ProcessSets.{processes_from_none, processes_from_first}

pub bit_tested : (word p : ℕ) → eqb (bit_and (word / 2 ^ p) 1) 1 ≡ has_bit word p
unfolding has_bit
bit_tested word p = ap (λ n. eqb n 1) (shr_and_one word p)

bit_set : (word p : ℕ) → bit_at word p ≡ 1 → has_bit word p ≡ true
unfolding has_bit
bit_set word p e = ap (λ n. eqb n 1) e

bit_clear : (word p : ℕ) → bit_at word p ≡ 0 → has_bit word p ≡ false
unfolding has_bit
bit_clear word p e = ap (λ n. eqb n 1) e

bit_same : (word other p : ℕ) → bit_at word p ≡ bit_at other p → has_bit word p ≡ has_bit other p
unfolding has_bit
bit_same word other p e = ap (λ n. eqb n 1) e

-- a bit is set
pub with_bit : (word p : ℕ) → p < 64 → IsWithBit word (bit_or word (1 * 2 ^ p % 2 ^ 64)) p
with_bit word p low = record {
  set = bit_set (bit_or word (1 * 2 ^ p % 2 ^ 64)) p (bit_at_set_same w64 word p low);
  others = λ q ne. bit_same (bit_or word (1 * 2 ^ p % 2 ^ 64)) word q (bit_at_set_other w64 word p low q ne);
}

pub set_of-with_bit : (count word after p : ℕ) → IsWithBit word after p → p < count → set_of count after ≡ set (set_of count word) p true
set_of-with_bit count word after p is known =
    let s = set_of count word in
    let long = length-set_of count word in
    let same : (q : ℕ) → q < count → get_or (set_of count after) q false ≡ get_or (set s p true) q false =
    λ q l. in_range count after q l
    ∙ elim (cases_eq q p) [
      | inl e ↦ ap (has_bit after) e ∙ is.set ∙ sym (ap (λ k. get_or (set s p true) k false) e ∙ get_or-set_same s p true false (omega (arith, known, long)))
      | inr ne ↦ is.others q ne ∙ sym (in_range count word q l) ∙ sym (get_or-set_other s p q true false ne)
    ] in
    ext_get_or false (set_of count after) (set s p true) (length-set_of count after ∙ sym (length-set s p true ∙ long))
    (λ q l. same q (omega (arith, l, length-set_of count after)))

pub bits_with_bit : (count word after p : ℕ) → AreBitsOf count word → IsWithBit word after p → p < count → AreBitsOf count after
bits_with_bit count word after p are is known = record {
  few = are.few;
  clear = λ q past. is.others q (λ e. absurd (omega (arith, past, known, e))) ∙ are.clear q past;
}

-- no bit is set, or all are
pub no_bit : (p : ℕ) → has_bit 0 p ≡ false
no_bit p = bit_clear 0 p (bit_at-zero p)

pub all_bits : (count p : ℕ) → p < count → has_bit (2 ^ count - 1) p ≡ true
all_bits count p l = bit_set (2 ^ count - 1) p (bit_at_ones count p l)

pub none_behind_all : (count p : ℕ) → count ≤ p → has_bit (2 ^ count - 1) p ≡ false
none_behind_all count p past = bit_clear (2 ^ count - 1) p (bit_at_ones_above count p past)

-- a set all of whose processes have the same
pub set_of_same : (count word : ℕ) (b : Bool) → ((p : ℕ) → p < count → has_bit word p ≡ b) → set_of count word ≡ replicate count b
set_of_same count word b same =
    ext_get_or false (set_of count word) (replicate count b) (length-set_of count word ∙ sym (length-replicate count b))
    (λ p l. let known : p < count = omega (arith, l, length-set_of count word) in in_range count word p known ∙ same p known ∙ sym (get_or-replicate count p b false known))

-- the bits of two sets

either : (a b : ℕ) → a < 2 → b < 2 → eqb (max a b) 1 ≡ (eqb a 1 || eqb b 1)
either zero zero l m = refl
either zero (suc zero) l m = refl
either (suc zero) zero l m = refl
either (suc zero) (suc zero) l m = refl
either (suc (suc a)) b l m = absurd (omega (arith, l))
either zero (suc (suc b)) l m = absurd (omega (arith, m))
either (suc zero) (suc (suc b)) l m = absurd (omega (arith, m))

united_bits : (word other p : ℕ) → has_bit (bit_or word other) p ≡ (has_bit word p || has_bit other p)
unfolding has_bit
united_bits word other p =
    ap (λ k. eqb k 1) (bit_at_or word other p) ∙ either (bit_at word p) (bit_at other p) (bit_at-lt word p) (bit_at-lt other p)

pub set_of-united : (count word other : ℕ) → set_of count (bit_or word other) ≡ union (set_of count word) (set_of count other)
set_of-united count word other =
    let s = set_of count word in
    let t = set_of count other in
    let long : length s ≡ count = length-set_of count word in
    let both : ℕ → Bool = λ p. get_or s p false || get_or t p false in
    let at : (p : ℕ) → p < count → get_or (set_of count (bit_or word other)) p false ≡ get_or (union s t) p false =
    λ p l.
    in_range count (bit_or word other) p l ∙ united_bits word other p
    ∙ sym (get_or-map-range_with_len both 0 (length s) p p false (omega (arith, l, long)) (omega arith)
    ∙ ap (λ b. b || get_or t p false) (in_range count word p l) ∙ ap (λ b. has_bit word p || b) (in_range count other p l)) in
    ext_get_or false (set_of count (bit_or word other)) (union s t) (length-set_of count (bit_or word other) ∙ sym (length-map-range_with_len both 0 (length s) ∙ long))
    (λ p l. at p (omega (arith, l, length-set_of count (bit_or word other))))

pub bits_united : (count word other : ℕ) → AreBitsOf count word → AreBitsOf count other → AreBitsOf count (bit_or word other)
bits_united count word other are too = record {
  few = are.few;
  clear = λ p past. united_bits word other p ∙ ap (λ b. b || has_bit other p) (are.clear p past) ∙ too.clear p past;
}

-- the first bit from one on

shifted : (word j k : ℕ) → bit_at (word / 2 ^ k) j ≡ bit_at word (k + j)
shifted word j k = ap (λ m. m % 2) (div-div-eq-div-mul word (2 ^ k) (2 ^ j) ∙ ap (λ d. word / d) (sym (pow-add 2 k j)))

bit_from : (word from p : ℕ) → from ≤ p → bit_at word p ≡ bit_at (word / 2 ^ from) (p - from)
bit_from word from p order = let sum : p ≡ from + (p - from) = omega (arith, order) in ap (bit_at word) sum ∙ sym (shifted word (p - from) from)

pub none_left : (count word from : ℕ) → AreBitsOf count word → word / 2 ^ from ≡ 0 → processes_from (set_of count word) from ≡ []
none_left count word from are none =
    processes_from_none (set_of count word) from
    (λ p order. in_set count word p are ∙ bit_clear word p (bit_from word from p order ∙ ap (λ n. bit_at n (p - from)) none ∙ bit_at-zero (p - from)))

-- The lowest bit that is left is the first.
pub first_left : (count word from : ℕ) → AreBitsOf count word → word < 2 ^ 64 → (word / 2 ^ from) ≢ 0
    → processes_from (set_of count word) from ≡ (from + trailing_zeros w64 (word / 2 ^ from)) ∷ processes_from (set_of count word) (from + trailing_zeros w64 (word / 2 ^ from) + 1)
first_left count word from are fits some =
    let left = word / 2 ^ from in
    let small : left < 2 ^ 64 = omega (arith, fits, div-le_self word (2 ^ from)) in
    let j = trailing_zeros w64 left in
    let low = bit_at-trailing_zeros w64 left (omega (arith, some)) small in
    let back : (from + j) - from ≡ j = omega arith in
    processes_from_first (set_of count word) from (from + j) (omega arith)
    (in_set count word (from + j) are ∙ bit_set word (from + j) (bit_from word from (from + j) (omega arith) ∙ ap (bit_at left) back ∙ low.1))
    (λ p order below. in_set count word p are ∙ bit_clear word p (bit_from word from p order ∙ low.2 (p - from) (omega (arith, order, below))))

-- A process that is in the set is one of so many.
pub first_within : (count word from : ℕ) → AreBitsOf count word → word < 2 ^ 64 → (word / 2 ^ from) ≢ 0 → from + trailing_zeros w64 (word / 2 ^ from) < count
first_within count word from are fits some =
    let left = word / 2 ^ from in
    let small : left < 2 ^ 64 = omega (arith, fits, div-le_self word (2 ^ from)) in
    let j = trailing_zeros w64 left in
    let low = bit_at-trailing_zeros w64 left (omega (arith, some)) small in
    elim (cases_lt (from + j) count) [
      | inl l ↦ l
      | inr past ↦ absurd (false≢true (sym (are.clear (from + j) past) ∙ bit_set word (from + j) (sym (shifted word j from) ∙ low.1)))
    ]
