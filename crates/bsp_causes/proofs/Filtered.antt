-- The numbers of a range that pass a test.
use Rattle.std.proofs.Common.{◌≡◌, ◌≤◌, ◌<◌, ◌+◌, ℕ, zero, suc, Bool, true, false, cond, List, [], ◌∷◌, ◌++◌, filter, arith, refl, ap, ◌∙◌, inl, inr}
use Rattle.std.specs.List.{range_with_len}
use Rattle.std.proofs.lemmas.Bool.{cases_lt}
use Rattle.std.proofs.lemmas.List.Elements.{filter-append}
use Rattle.std.proofs.lemmas.List.{append-nil}

pub range-append : (a m n : ℕ) → range_with_len a (m + n) ≡ range_with_len a m ++ range_with_len (a + m) n
range-append a zero n =
    let none : 0 + n ≡ n = omega arith in
    let here : a ≡ a + 0 = omega arith in
    ap (range_with_len a) none ∙ ap (λ k. range_with_len k n) here
range-append a (suc m) n =
    let more : suc m + n ≡ suc (m + n) = omega arith in
    let there : a + 1 + m ≡ a + suc m = omega arith in
    ap (range_with_len a) more ∙ ap (λ ks. a ∷ ks) (range-append (a + 1) m n ∙ ap (λ k. range_with_len (a + 1) m ++ range_with_len k n) there)

pub filter_range-append : (p : ℕ → Bool) (a m n : ℕ) → filter p (range_with_len a (m + n)) ≡ filter p (range_with_len a m) ++ filter p (range_with_len (a + m) n)
filter_range-append p a m n = ap (filter p) (range-append a m n) ∙ filter-append p (range_with_len a m) (range_with_len (a + m) n)

-- one number more passes, or it does not
pub passes_more : (p : ℕ → Bool) (a n k : ℕ) → a + n ≡ k → p k ≡ true → filter p (range_with_len a (n + 1)) ≡ filter p (range_with_len a n) ++ k ∷ []
passes_more p a n k at h =
    filter_range-append p a n 1 ∙ ap (λ j. filter p (range_with_len a n) ++ filter p (j ∷ [])) at ∙ ap (λ b. filter p (range_with_len a n) ++ cond b (k ∷ []) []) h

pub fails_more : (p : ℕ → Bool) (a n k : ℕ) → a + n ≡ k → p k ≡ false → filter p (range_with_len a (n + 1)) ≡ filter p (range_with_len a n)
fails_more p a n k at h =
    filter_range-append p a n 1 ∙ ap (λ j. filter p (range_with_len a n) ++ filter p (j ∷ [])) at ∙ ap (λ b. filter p (range_with_len a n) ++ cond b (k ∷ []) []) h
    ∙ append-nil (filter p (range_with_len a n))

-- none passes
pub none_passes : (p : ℕ → Bool) (a n : ℕ) → ((k : ℕ) → a ≤ k → k < a + n → p k ≡ false) → filter p (range_with_len a n) ≡ []
none_passes p a zero none = refl
none_passes p a (suc n) none =
    ap (λ b. cond b (a ∷ filter p (range_with_len (a + 1) n)) (filter p (range_with_len (a + 1) n))) (none a (omega arith) (omega arith))
    ∙ none_passes p (a + 1) n (λ k low high. none k (omega arith) (omega arith))

head_fails : (b : Bool) (x : ℕ) (xs : List ℕ) → cond b (x ∷ xs) xs ≡ [] → (b ≡ false) × (xs ≡ [])
head_fails true x xs e = cc
head_fails false x xs e = (refl, e)

-- where none is left, none passes
pub fail_where_none : (p : ℕ → Bool) (a n : ℕ) → filter p (range_with_len a n) ≡ [] → (k : ℕ) → a ≤ k → k < a + n → p k ≡ false
fail_where_none p a zero e k low high = absurd (omega arith)
fail_where_none p a (suc n) e k low high =
    let first = head_fails (p a) a (filter p (range_with_len (a + 1) n)) e in
    elim (cases_lt a k) [
      | inl l ↦ fail_where_none p (a + 1) n first.1 k (omega arith) (omega arith)
      | inr m ↦ let here : k ≡ a = omega arith in ap p here ∙ first.0
    ]
