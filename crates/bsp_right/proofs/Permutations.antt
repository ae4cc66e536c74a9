-- Sums over a range in another order.
use Rattle.std.proofs.Common.{◌+◌, ◌==◌, ap, arith, cond, refl, suc, sym, zero, ℕ, ◌∙◌, ◌≡◌, ◌≢◌}
use Rattle.std.proofs.lemmas.Bool.{eq-eqb, ne_eqb}
use Rattle.bsp_right.specs.Orders.{IsOrder}
use Rattle.bsp_right.proofs.SumsOver.{sum_over, sum_over-agree, sum_over-none, sum_over-one}

sum_over-plus : (f g : ℕ → ℕ) (n k : ℕ) → sum_over (λ p. f p + g p) k n ≡ sum_over f k n + sum_over g k n
sum_over-plus f g zero k = refl
sum_over-plus f g (suc n) k = omega (arith, sum_over-plus f g n (k + 1))

sum_over-swapped : (f : ℕ → ℕ → ℕ) (m j n k : ℕ) → sum_over (λ p. sum_over (f p) k n) j m ≡ sum_over (λ d. sum_over (λ p. f p d) j m) k n
sum_over-swapped f zero j n k = sym (sum_over-none (λ d. 0) n k (λ p _ _. refl))
sum_over-swapped f (suc m) j n k =
    ap (λ s. sum_over (f j) k n + s) (sum_over-swapped f m (j + 1) n k)
    ∙ sym (sum_over-plus (f j) (λ d. sum_over (λ p. f p d) (j + 1) m) n k)

-- the number that f gives of d, if that is e
at_place : (ℕ → ℕ) → ℕ → ℕ → ℕ
at_place f e d = cond (d == e) (f d) 0

at_place-same : (f : ℕ → ℕ) (e d : ℕ) → d ≡ e → at_place f e d ≡ f d
unfolding at_place
at_place-same f e d same = ap (λ b. cond b (f d) 0) (eq-eqb d e same)

at_place-other : (f : ℕ → ℕ) (e d : ℕ) → d ≢ e → at_place f e d ≡ 0
unfolding at_place
at_place-other f e d apart = ap (λ b. cond b (f d) 0) (ne_eqb d e apart)

-- The sum over the places of all numbers is the sum over all places.
pub sum_over-ordered : (n : ℕ) (element place : ℕ → ℕ) → IsOrder n element place → (f : ℕ → ℕ) → sum_over (λ p. f (place p)) 0 n ≡ sum_over f 0 n
sum_over-ordered n element place h f =
    sum_over-agree (λ p. f (place p)) (λ p. sum_over (at_place f (place p)) 0 n) n 0 (λ p _ l.
    sym (sum_over-one (at_place f (place p)) (place p) n 0 (omega arith) (omega (arith, (h.places p (omega arith)).0)) (λ d _ _ apart. at_place-other f (place p) d apart) ∙ at_place-same f (place p) (place p) refl))
    ∙ sum_over-swapped (λ p d. at_place f (place p) d) n 0 n 0
    ∙ sum_over-agree (λ d. sum_over (λ p. at_place f (place p) d) 0 n) f n 0 (λ d _ l.
    let e = h.elements d (omega arith) in
    sum_over-one (λ p. at_place f (place p) d) (element d) n 0 (omega arith) (omega (arith, e.0)) (λ p _ m apart. at_place-other f (place p) d (λ same. apart (sym (h.places p (omega arith)).1 ∙ ap element (sym same))))
    ∙ at_place-same f (place (element d)) d (sym e.1))
