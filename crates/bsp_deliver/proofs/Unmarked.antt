-- Marks that are set one after another.
use Rattle.std.proofs.Common.{◌≡◌, ℕ, ◌+◌, ◌<◌, ◌≤◌, Bool, true, false, List, length, get_or, set, inl, inr, refl, sym, ◌∙◌, ap, arith, subst}
use Rattle.std.specs.Prelude.{◌↔◌}
use Rattle.std.proofs.lemmas.Bool.{false≢true, cases_eq, cases_lt}
use Rattle.std.proofs.lemmas.List.{length-set, get_or-set_same, get_or-set_other, get_or_past}
use Rattle.bsp_deliver.specs.Inside.Marks.{AreMarkedUnless}

-- what is not marked is within the list
pub unmarked_within : (xs : List Bool) (d : ℕ) → get_or xs d true ≡ false → d < length xs
unmarked_within xs d f = elim (cases_lt d (length xs)) [ inl l ↦ l | inr l ↦ absurd (false≢true (sym f ∙ get_or_past xs d true l)) ]

pub none_marked : (P : ℕ → Type 0) (xs : List Bool) → ((d : ℕ) → get_or xs d true ≡ false → P d) → AreMarkedUnless P xs xs
none_marked P xs all = record { count = refl; each = λ d. (λ f. (f, all d f), λ h. h.0) }

pub marked_as : (P R : ℕ → Type 0) (xs ys : List Bool) → AreMarkedUnless P xs ys → ((d : ℕ) → get_or xs d true ≡ false → R d ↔ P d) → AreMarkedUnless R xs ys
marked_as P R xs ys h e = record {
  count = h.count;
  each = λ d. (λ f. let x = (h.each d).0 f in (x.0, (e d x.0).1 x.1), λ r. (h.each d).1 (r.0, (e d r.0).0 r.1));
}

pub marked_twice : (P Q R : ℕ → Type 0) (xs ys zs : List Bool) → AreMarkedUnless P xs ys → AreMarkedUnless Q ys zs → ((d : ℕ) → get_or xs d true ≡ false → R d ↔ P d × Q d)
    → AreMarkedUnless R xs zs
marked_twice P Q R xs ys zs h k e = record {
  count = k.count ∙ h.count;
  each =
      λ d. (
        λ f.
            let y = (k.each d).0 f in
            let x = (h.each d).0 y.0 in
            (x.0, (e d x.0).1 (x.1, y.1)),
        λ r. let both = (e d r.0).0 r.1 in (k.each d).1 ((h.each d).1 (r.0, both.0), both.1),
      );
}

-- one mark more
pub one_marked : (S : ℕ → Type 0) (xs : List Bool) (p : ℕ) → p < length xs → (S p → ⊥) → AreMarkedUnless (λ d. d ≡ p → S d) xs (set xs p true)
one_marked S xs p l other = record {
  count = length-set xs p true;
  each =
      λ d. elim (cases_eq p d) [
        | inl e ↦ (
          λ f. absurd (false≢true (sym f ∙ ap (λ n. get_or (set xs p true) n true) (sym e) ∙ get_or-set_same xs p true true l)),
          λ h. absurd (other (subst S (sym e) (h.1 (sym e)))),
        )
        | inr ne ↦
            let same = get_or-set_other xs p d true true (λ e. ne (sym e)) in
            (λ f. (sym same ∙ f, λ e. absurd (ne (sym e))), λ h. same ∙ h.0)
      ];
}

-- a mark that stands, or that is not wanted
pub mark_stays : (S : ℕ → Type 0) (xs : List Bool) (p : ℕ) → (get_or xs p true ≡ false → S p) → AreMarkedUnless (λ d. d ≡ p → S d) xs xs
mark_stays S xs p holds = none_marked (λ d. d ≡ p → S d) xs (λ d f e. subst S (sym e) (holds (ap (λ n. get_or xs n true) (sym e) ∙ f)))

-- marks process by process
pub marked_more : (S : ℕ → Type 0) (xs ys zs : List Bool) (n : ℕ) → AreMarkedUnless (λ d. d < n → S d) xs ys → AreMarkedUnless (λ d. d ≡ n → S d) ys zs
    → AreMarkedUnless (λ d. d < n + 1 → S d) xs zs
marked_more S xs ys zs n h k =
    marked_twice (λ d. d < n → S d) (λ d. d ≡ n → S d) (λ d. d < n + 1 → S d) xs ys zs h k
    (λ d f. (
      λ r. (λ l. r (omega arith), λ e. r (omega arith)),
      λ both l. elim (cases_lt d n) [ inl w ↦ both.0 w | inr w ↦ both.1 (omega arith) ],
    ))

pub marked_all : (S : ℕ → Type 0) (xs ys : List Bool) (n : ℕ) → length xs ≤ n → AreMarkedUnless (λ d. d < n → S d) xs ys → AreMarkedUnless S xs ys
marked_all S xs ys n long h =
    marked_as (λ d. d < n → S d) S xs ys h
    (λ d f. (λ s _. s, λ s. s (let w = unmarked_within xs d f in omega arith)))
