-- Batches without the edits of whose part there is a later one.
use Rattle.std.proofs.Common.{◌≡◌, ◌+◌, ◌<◌, ◌≤◌, ℕ, zero, suc, Bool, true, false, cond, None, List, [], ◌∷◌, ◌++◌, ◌||◌, length, drop, get_or, refl, sym, ap, ◌∙◌, arith, append_assoc}
use Rattle.std.specs.Prelude.{Any, Contains}
use Rattle.std.specs.List.{list_any}
use Rattle.std.proofs.lemmas.List.{drop_more, drop_all, append-nil}
use Rattle.bsp_model.specs.declared.input.Input.{Input}
use Rattle.bsp_incr.specs.declared.edit.Edit.{Edit}
use Rattle.bsp_incr.specs.Edits.{edit_fault, refusal_from, edited_by, edited}
use Rattle.bsp_incr.specs.Undo.{same_part}
use Rattle.bsp_laws.specs.Batches.{last_edits, AreApart, IsInPlaceOf}
use Rattle.bsp_incr.proofs.EditSequences.{both_none, none_both, overwritten}

first_or_later : {X : Type 0} (p : X → Bool) (x : X) (xs : List X) (b : Bool) → p x ≡ b → (list_any p xs ≡ true → Any (λ y. p y ≡ true) xs) → b || list_any p xs ≡ true → Any (λ y. p y ≡ true) (x ∷ xs)
first_or_later p x xs true e later h = (0, x, omega arith, refl, e)
first_or_later p x xs false e later h = let rest = later h in (suc rest.0, rest.1, omega (arith, rest.2), rest.3, rest.4)

some_member : {X : Type 0} (p : X → Bool) (xs : List X) → list_any p xs ≡ true → Any (λ x. p x ≡ true) xs
some_member p [] h = cc
some_member p (x ∷ xs) h = first_or_later p x xs (p x) refl (some_member p xs) h

-- one edit more, by whether there is a later one of its part

same_if : (i : Input) (e : Edit) (later : List Edit) (b : Bool) → list_any (same_part e) later ≡ b → ((j : Input) → edited j (last_edits later) ≡ edited j later)
    → edited i (cond b (last_edits later) (e ∷ last_edits later)) ≡ edited i (e ∷ later)
same_if i e later true h same = same i ∙ sym (overwritten i e later (some_member (same_part e) later h))
same_if i e later false h same = same (edited_by i e)

pub same_input : (i : Input) (es : List Edit) → edited i (last_edits es) ≡ edited i es
same_input i [] = refl
same_input i (e ∷ later) = same_if i e later (list_any (same_part e) later) refl (λ j. same_input j later)

accepted_if : (i : Input) (e : Edit) (later : List Edit) (n : ℕ) (b : Bool) → edit_fault i e ≡ None → ((m : ℕ) → refusal_from i m (last_edits later) ≡ None)
    → refusal_from i n (cond b (last_edits later) (e ∷ last_edits later)) ≡ None
accepted_if i e later n true h rest = rest n
accepted_if i e later n false h rest = both_none n (edit_fault i e) (refusal_from i (n + 1) (last_edits later)) h (rest (n + 1))

still_accepted : (i : Input) (m n : ℕ) (es : List Edit) → refusal_from i m es ≡ None → refusal_from i n (last_edits es) ≡ None
still_accepted i m n [] h = refl
still_accepted i m n (e ∷ later) h =
    let two = none_both m (edit_fault i e) (refusal_from i (m + 1) later) h in
    accepted_if i e later n (list_any (same_part e) later) two.0 (λ k. still_accepted i (m + 1) k later two.1)

-- what is left is of parts that there are

no_member_if : {X : Type 0} (p : X → Bool) (y : X) (ys : List X) (x : X) (b : Bool) → p y ≡ b → b || list_any p ys ≡ false → ((z : X) → Contains ys z → p z ≡ false) → Contains (y ∷ ys) x → p x ≡ false
no_member_if p y ys x true e h rest c = cc
no_member_if p y ys x false e h rest (zero, l, at) = ap p (sym at) ∙ e
no_member_if p y ys x false e h rest (suc k, l, at) = rest x (k, omega (arith, l), at)

any_rest : (b c : Bool) → b || c ≡ false → c ≡ false
any_rest true c h = cc
any_rest false c h = h

no_member : {X : Type 0} (p : X → Bool) (xs : List X) → list_any p xs ≡ false → (x : X) → Contains xs x → p x ≡ false
no_member p [] h x (k, l, at) = absurd (omega arith)
no_member p (y ∷ ys) h x c = no_member_if p y ys x (p y) refl h (no_member p ys (any_rest (p y) (list_any p ys) h)) c

among_if : (b : Bool) (e : Edit) (later : List Edit) (d : Edit) → Contains (cond b later (e ∷ later)) d → Contains (e ∷ later) d
among_if true e later d (k, l, at) = (suc k, omega (arith, l), at)
among_if false e later d c = c

further_among : (e : Edit) (later : List Edit) (d : Edit) → (Contains (last_edits later) d → Contains later d) → Contains (e ∷ last_edits later) d → Contains (e ∷ later) d
further_among e later d rest (zero, l, at) = (0, omega arith, at)
further_among e later d rest (suc k, l, at) = let c = rest (k, omega (arith, l), at) in (suc c.0, omega (arith, c.1), c.2)

among : (es : List Edit) (d : Edit) → Contains (last_edits es) d → Contains es d
among [] d c = c
among (e ∷ later) d c = further_among e later d (among later d) (among_if (list_any (same_part e) later) e (last_edits later) d c)

apart_if : (e : Edit) (later : List Edit) (b : Bool) → list_any (same_part e) later ≡ b → AreApart (last_edits later) → AreApart (cond b (last_edits later) (e ∷ last_edits later))
apart_if e later true h rest = rest
apart_if e later false h rest = (λ d c. no_member (same_part e) later h d (among later d c), rest)

all_apart : (es : List Edit) → AreApart (last_edits es)
all_apart [] = tt
all_apart (e ∷ later) = apart_if e later (list_any (same_part e) later) refl (all_apart later)

pub in_place : (es : List Edit) → IsInPlaceOf es (last_edits es)
in_place es = record { input = λ i. same_input i es; accepted = λ i h. still_accepted i 0 0 es h; apart = all_apart es }

-- the edits from place k on
from_place : (es : List Edit) (k : ℕ) (d : Edit) (b : Bool) → k < length es → list_any (same_part (get_or es k d)) (drop (k + 1) es) ≡ b
    → last_edits (drop k es) ≡ cond b (last_edits (drop (k + 1) es)) (get_or es k d ∷ last_edits (drop (k + 1) es))
from_place es k d b l h =
    ap last_edits (drop_more es k d l) ∙ ap (λ c. cond c (last_edits (drop (k + 1) es)) (get_or es k d ∷ last_edits (drop (k + 1) es))) h

pub passed_over : (es last : List Edit) (k : ℕ) (d : Edit) → k < length es → list_any (same_part (get_or es k d)) (drop (k + 1) es) ≡ true → last ++ last_edits (drop k es) ≡ last_edits es
    → last ++ last_edits (drop (k + 1) es) ≡ last_edits es
passed_over es last k d l h so_far = ap (λ xs. last ++ xs) (sym (from_place es k d true l h)) ∙ so_far

pub taken_in : (es last : List Edit) (k : ℕ) (d : Edit) → k < length es → list_any (same_part (get_or es k d)) (drop (k + 1) es) ≡ false → last ++ last_edits (drop k es) ≡ last_edits es
    → (last ++ get_or es k d ∷ []) ++ last_edits (drop (k + 1) es) ≡ last_edits es
taken_in es last k d l h so_far =
    append_assoc last (get_or es k d ∷ []) (last_edits (drop (k + 1) es)) ∙ ap (λ xs. last ++ xs) (sym (from_place es k d false l h)) ∙ so_far

pub all_done : (es last : List Edit) (k : ℕ) → length es ≤ k → last ++ last_edits (drop k es) ≡ last_edits es → last ≡ last_edits es
all_done es last k l h = sym (append-nil last) ∙ ap (λ xs. last ++ last_edits xs) (sym (drop_all k es l)) ∙ h
