-- Sums over a range of numbers.
use Rattle.std.proofs.Common.{◌+◌, ◌-◌, ◌*◌, ◌<◌, ap, arith, inl, inr, refl, suc, zero, ℕ, ◌∙◌, ◌≡◌, ◌≢◌, ◌≤◌}
use Rattle.std.proofs.lemmas.Bool.{cases_lt}

-- f of n numbers from k on, summed
abbrev pub sum_over : (ℕ → ℕ) → ℕ → ℕ → ℕ
sum_over f k zero = 0
sum_over f k (suc n) = f k + sum_over f (k + 1) n

pub sum_over-agree : (f g : ℕ → ℕ) (n k : ℕ) → ((p : ℕ) → k ≤ p → p < k + n → f p ≡ g p) → sum_over f k n ≡ sum_over g k n
sum_over-agree f g zero k h = refl
sum_over-agree f g (suc n) k h = λ i. h k (omega arith) (omega arith) i + sum_over-agree f g n (k + 1) (λ p l m. h p (omega arith) (omega arith)) i

pub sum_over-none : (f : ℕ → ℕ) (n k : ℕ) → ((p : ℕ) → k ≤ p → p < k + n → f p ≡ 0) → sum_over f k n ≡ 0
sum_over-none f zero k h = refl
sum_over-none f (suc n) k h = omega (arith, h k (omega arith) (omega arith), sum_over-none f n (k + 1) (λ p l m. h p (omega arith) (omega arith)))

-- of the first numbers and of the others
pub sum_over-split : (f : ℕ → ℕ) (m n k : ℕ) → sum_over f k (m + n) ≡ sum_over f k m + sum_over f (k + m) n
sum_over-split f zero n k =
    let none : zero + n ≡ n = omega arith in
    let same : k ≡ k + zero = omega arith in
    let moved : sum_over f k (zero + n) ≡ sum_over f (k + zero) n = ap (sum_over f k) none ∙ ap (λ j. sum_over f j n) same in
    omega arith
sum_over-split f (suc m) n k =
    let one : suc m + n ≡ suc (m + n) = omega arith in
    let next : sum_over f (k + 1 + m) n ≡ sum_over f (k + suc m) n = ap (λ j. sum_over f j n) (let e : k + 1 + m ≡ k + suc m = omega arith in e) in
    let first : sum_over f k (suc m + n) ≡ f k + sum_over f (k + 1) (m + n) = ap (sum_over f k) one in
    omega (arith, sum_over-split f m n (k + 1))

-- where f is the same of each
pub sum_over-same : (f : ℕ → ℕ) (c n k : ℕ) → ((p : ℕ) → k ≤ p → p < k + n → f p ≡ c) → sum_over f k n ≡ n * c
sum_over-same f c zero k h = omega arith
sum_over-same f c (suc n) k h = omega (arith, h k (omega arith) (omega arith), sum_over-same f c n (k + 1) (λ p l m. h p (omega arith) (omega arith)))

-- where f is 0 but at s
pub sum_over-one : (f : ℕ → ℕ) (s n k : ℕ) → k ≤ s → s < k + n → ((p : ℕ) → k ≤ p → p < k + n → p ≢ s → f p ≡ 0) → sum_over f k n ≡ f s
sum_over-one f s zero k l m h = absurd (omega arith)
sum_over-one f s (suc n) k l m h =
    elim (cases_lt k s) [
      | inl less ↦ omega (arith, h k (omega arith) (omega arith) (λ e. omega (arith, e)), sum_over-one f s n (k + 1) (omega arith) (omega arith) (λ p a b c. h p (omega arith) (omega arith) c))
      | inr more ↦
          let here : f k ≡ f s = ap f (omega arith) in
          omega (arith, here, sum_over-none f n (k + 1) (λ p a b. h p (omega arith) (omega arith) (λ e. omega (arith, e))))
    ]

-- where f is 0 at s, and the same of each other
pub sum_over-others : (f : ℕ → ℕ) (c s n k : ℕ) → k ≤ s → s < k + n → f s ≡ 0 → ((p : ℕ) → k ≤ p → p < k + n → p ≢ s → f p ≡ c) → sum_over f k n ≡ (n - 1) * c
sum_over-others f c s zero k l m none h = absurd (omega arith)
sum_over-others f c s (suc n) k l m none h =
    let one : suc n - 1 ≡ n = omega arith in
    elim (cases_lt k s) [
      | inl less ↦
          let rest : sum_over f (k + 1) n ≡ (n - 1) * c = sum_over-others f c s n (k + 1) (omega arith) (omega arith) none (λ p a b d. h p (omega arith) (omega arith) d) in
          let first : f k ≡ c = h k (omega arith) (omega arith) (λ e. omega (arith, e)) in
          let count : n ≡ suc (n - 1) = omega arith in
          let more : n * c ≡ suc (n - 1) * c = ap (λ j. j * c) count in
          let goal : (suc n - 1) * c ≡ n * c = ap (λ j. j * c) one in
          omega arith
      | inr more ↦
          let here : f k ≡ f s = ap f (omega arith) in
          let rest : sum_over f (k + 1) n ≡ n * c = sum_over-same f c n (k + 1) (λ p a b. h p (omega arith) (omega arith) (λ e. omega (arith, e))) in
          let goal : (suc n - 1) * c ≡ n * c = ap (λ j. j * c) one in
          omega arith
    ]
