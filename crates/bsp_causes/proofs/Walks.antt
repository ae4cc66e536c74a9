-- The walk over places in order.
use Rattle.std.proofs.Common.{◌≡◌, ℕ, zero, suc, ◌+◌, ◌-◌, ◌<◌, ◌≤◌, ◌==◌, cond, List, [], ◌∷◌, filter, length, get_or, refl, sym, ap, ◌∙◌, arith, inl, inr}
use Rattle.std.specs.List.{slice_range}
use Rattle.std.proofs.lemmas.Bool.{eq-eqb, ne_eqb}
use Rattle.std.proofs.lemmas.List.{get_or_default}
use Rattle.bsp_incr.specs.declared.reply.Place.{Place}
use Rattle.bsp_incr.specs.Exact.{comes_before, AreInOrder}
use Rattle.bsp_causes.specs.Inside.Walk.{no_place, step_at, AreBySuperstep, BeginsAt}

not_later : (p q : Place) → comes_before p q → p.step ≤ q.step
not_later p q h = elim h [ inl w ↦ omega (arith, w) | inr w ↦ omega (arith, w.0) ]

steps_ascend : (places : List Place) → AreInOrder places → (i j : ℕ) → i ≤ j → j < length places → step_at places i ≤ step_at places j
steps_ascend [] h i j l k = absurd (omega arith)
steps_ascend (p ∷ later) h zero zero l k = omega arith
steps_ascend (p ∷ later) h zero (suc j) l k = let q = get_or later j no_place in not_later p q (h.0 q (j, omega arith, get_or_default later j q no_place (omega arith)))
steps_ascend (p ∷ later) h (suc i) zero l k = absurd (omega arith)
steps_ascend (p ∷ later) h (suc i) (suc j) l k = steps_ascend later h.1 i j (omega arith) (omega arith)

pub by_superstep : (places : List Place) → AreInOrder places → AreBySuperstep places
by_superstep places h = record { each = steps_ascend places h }

tail_begins : (p : Place) (later : List Place) (s k : ℕ) → BeginsAt (p ∷ later) s (suc k) → BeginsAt later s k
tail_begins p later s k h = record {
  within = omega (arith, h.within);
  before = λ i l. h.before (suc i) (omega arith);
  behind = λ i l m. h.behind (suc i) (omega arith) (omega arith);
}

tail_begins_first : (p : Place) (later : List Place) (s : ℕ) → BeginsAt (p ∷ later) s 0 → BeginsAt later s 0
tail_begins_first p later s h = record {
  within = omega arith;
  before = λ i l. absurd (omega arith);
  behind = λ i l m. h.behind (suc i) (omega arith) (omega arith);
}

skipped : (p : Place) (later : List Place) (s : ℕ) → (p.step ≡ s → ⊥) → filter (λ (x : Place). x.step == s) (p ∷ later) ≡ filter (λ (x : Place). x.step == s) later
skipped p later s ne = ap (λ b. cond b (p ∷ filter (λ (x : Place). x.step == s) later) (filter (λ (x : Place). x.step == s) later)) (ne_eqb p.step s ne)

taken : (p : Place) (later : List Place) (s : ℕ) → p.step ≡ s → filter (λ (x : Place). x.step == s) (p ∷ later) ≡ p ∷ filter (λ (x : Place). x.step == s) later
taken p later s e = ap (λ b. cond b (p ∷ filter (λ (x : Place). x.step == s) later) (filter (λ (x : Place). x.step == s) later)) (eq-eqb p.step s e)

-- The places between the beginnings of two supersteps are those of the first.
pub between : (places : List Place) (s a b : ℕ) → a ≤ b → BeginsAt places s a → BeginsAt places (s + 1) b → slice_range places a b ≡ filter (λ p. p.step == s) places
between [] s zero zero l begin end = refl
between [] s a (suc b) l begin end = absurd (omega (arith, end.within))
between [] s (suc a) zero l begin end = absurd (omega arith)
between (p ∷ later) s (suc a) zero l begin end = absurd (omega arith)
between (p ∷ later) s (suc a) (suc b) l begin end =
    let early : p.step < s = begin.before 0 (omega arith) in
    let fewer : suc b - suc a ≡ b - a = omega arith in
    rw fewer (between later s a b (omega arith) (tail_begins p later s a begin) (tail_begins p later (s + 1) b end) ∙ sym (skipped p later s (λ e. omega (arith, e))))
between (p ∷ later) s zero (suc b) l begin end =
    let here : s ≤ p.step = begin.behind 0 (omega arith) (omega arith) in
    let this : p.step < s + 1 = end.before 0 (omega arith) in
    let fewer : suc b - 0 ≡ suc (b - 0) = omega arith in
    rw fewer (ap (λ ps. p ∷ ps) (between later s 0 b (omega arith) (tail_begins_first p later s begin) (tail_begins p later (s + 1) b end)) ∙ sym (taken p later s (omega arith)))
between (p ∷ later) s zero zero l begin end =
    let late : s + 1 ≤ p.step = end.behind 0 (omega arith) (omega arith) in
    between later s 0 0 (omega arith) (tail_begins_first p later s begin) (tail_begins_first p later (s + 1) end) ∙ sym (skipped p later s (λ e. omega (arith, e)))
