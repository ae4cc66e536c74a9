-- Words that differ in no bit.
use Rattle.std.proofs.Common.{◌≡◌, ◌<◌, ◌≤◌, ◌+◌, ◌++◌, ℕ, List, length, take, drop, get_or, arith, sym, ap, ◌∙◌, inl, inr}
use Rattle.std.specs.Prelude.{◌↔◌}
use Rattle.std.specs.Int.Bits.{bit_or, bit_xor, or_zero_l, xor_self, xor_add_and}
use Rattle.std.proofs.lemmas.Bool.{cases_lt}
use Rattle.std.proofs.lemmas.Nat.{le_or_l, le_or_r, and_le_l, and_le_r}
use Rattle.std.proofs.lemmas.List.{take-take}
use Rattle.std.proofs.Math.Seq.{take-add}

none_of_both : (a b : ℕ) → bit_or a b ≡ 0 → (a ≡ 0) × (b ≡ 0)
none_of_both a b h = (omega (arith, h, le_or_l a b), omega (arith, h, le_or_r a b))

no_bit_differs : (a b : ℕ) → bit_xor a b ≡ 0 → a ≡ b
no_bit_differs a b h = omega (arith, h, xor_add_and a b, and_le_l a b, and_le_r a b)

-- the words below a place are the same
abbrev pub AreSameBelow : List ℕ → List ℕ → ℕ → Type 0
AreSameBelow xs ys n = (k : ℕ) → k < n → get_or xs k 0 ≡ get_or ys k 0

below_next : (xs ys : List ℕ) (n : ℕ) → AreSameBelow xs ys n → get_or xs n 0 ≡ get_or ys n 0 → AreSameBelow xs ys (n + 1)
below_next xs ys n below here k l =
    elim (cases_lt k n) [
      | inl w ↦ below k w
      | inr w ↦
          let at : k ≡ n = omega (arith, l, w) in
          ap (λ j. get_or xs j 0) at ∙ here ∙ ap (λ j. get_or ys j 0) (sym at)
    ]

-- one word more, whose bits that differ are gathered with those before it
pub one_word_more : (xs ys : List ℕ) (n d : ℕ) → (d ≡ 0) ↔ AreSameBelow xs ys n → (bit_or d (bit_xor (get_or xs n 0) (get_or ys n 0)) ≡ 0) ↔ AreSameBelow xs ys (n + 1)
one_word_more xs ys n d h = (
  λ e.
      let both = none_of_both d (bit_xor (get_or xs n 0) (get_or ys n 0)) e in
      below_next xs ys n (h.0 both.0) (no_bit_differs (get_or xs n 0) (get_or ys n 0) both.1),
  λ all.
      ap (λ a. bit_or a (bit_xor (get_or xs n 0) (get_or ys n 0))) (h.1 (λ k l. all k (omega (arith, l))))
      ∙ or_zero_l (bit_xor (get_or xs n 0) (get_or ys n 0))
      ∙ ap (λ x. bit_xor x (get_or ys n 0)) (all n (omega arith)) ∙ xor_self (get_or ys n 0),
)

-- the first words of a piece
pub front_of : (piece words : List ℕ) (count : ℕ) → piece ≡ take (length piece) words → count ≤ length piece → take count piece ≡ take count words
front_of piece words count there few = ap (take count) there ∙ take-take count (length piece) words few

-- one part more
pub one_part_more : (xs ys : List ℕ) (n m : ℕ) → take n xs ≡ take n ys → take m (drop n xs) ≡ take m (drop n ys) → take (n + m) xs ≡ take (n + m) ys
one_part_more xs ys n m front part =
    take-add n m xs ∙ ap (λ zs. zs ++ take m (drop n xs)) front ∙ ap (λ zs. take n ys ++ zs) part ∙ sym (take-add n m ys)
