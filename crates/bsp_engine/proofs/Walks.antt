-- The first value of another shape, and the tests of all values.
use Rattle.std.proofs.Common.{◌≡◌, ℕ, ◌+◌, ◌<◌, Bool, true, false, ◌&&◌, ◌||◌, List, [], ◌∷◌, Option, Some, None, Result, Ok, Err, map, take, length, get_or, cond, codes, refl, ap, sym, ◌∙◌}
use Rattle.std.specs.Prelude.{IfErr, OnOk, not, is_some, option_map}
use Rattle.std.specs.List.{find, list_all, list_any}
use Rattle.std.proofs.lemmas.List.Folds.{list_all-map, list_all_at, list_all_more}
use Rattle.toml.specs.Data.{Data, Members, get_member}
use Rattle.toml.specs.View.{view}
use Rattle.toml.specs.declared.value.Value.{Value}
use Rattle.bsp_engine.specs.Catalogue.{Meaning}
use Rattle.bsp_engine.specs.Keys.{passes}
use Rattle.bsp_engine.specs.Inside.Signs.{row_fits, rows_fit, batches_fit, has_no_sign}
use Rattle.bsp_engine.specs.Signs.{has_negative, has_negative_edit, has_negative_word}
use Rattle.bsp_engine.specs.Tree.{elements, elements_in, is_negative}

pub same_not : (a b : Bool) → not a ≡ not b → a ≡ b
same_not true true e = refl
same_not false false e = refl
same_not true false e = sym e
same_not false true e = sym e

-- one more value passes
pub all_grows : (test : Data → Bool) (vs : List Value) (i : ℕ) (v : Value) → i < length vs → v ≡ get_or vs i v → list_all (λ v. test (view v)) (take i vs) ≡ true → false ≡ not (test (view v)) → list_all (λ v. test (view v)) (take (i + 1) vs) ≡ true
all_grows test vs i v h is so_far pass =
    let here : test (view v) ≡ true = same_not (test (view v)) true (sym pass) in
    list_all_more (λ (v : Value). test (view v)) vs i v h
    ∙ (ap (λ b. b && test (view (get_or vs i v))) so_far ∙ (ap (λ (x : Value). test (view x)) (sym is) ∙ here))

-- one does not
pub all_broken : (test : Data → Bool) (vs : List Value) (i : ℕ) (v : Value) → i < length vs → v ≡ get_or vs i v → true ≡ not (test (view v)) → true ≡ not (list_all test (map view vs))
all_broken test vs i v h is fail =
    let here : test (view v) ≡ false = same_not (test (view v)) false (sym fail) in
    let broken : list_all (λ (v : Value). test (view v)) vs ≡ false =
    list_all_at (λ (v : Value). test (view v)) vs i v h (ap (λ (x : Value). test (view x)) (sym is) ∙ here) in
    sym (ap not (list_all-map test view vs ∙ broken))

-- all were gone over
pub all_passed : (test : Data → Bool) (vs : List Value) (i : ℕ) → take i vs ≡ vs → list_all (λ v. test (view v)) (take i vs) ≡ true → false ≡ not (list_all test (map view vs))
all_passed test vs i whole pass =
    sym (ap not (list_all-map test view vs ∙ (ap (list_all (λ (v : Value). test (view v))) (sym whole) ∙ pass)))

-- none is found that fails, if and only if all pass
pub found_failing : {A : Type 0} (p : A → Bool) (xs : List A) → is_some (find (λ x. not (p x)) xs) ≡ not (list_all p xs)
found_failing p [] = refl
found_failing p (x ∷ xs) =
    elim (p x) as (λ b. is_some (cond (not b) (Some x) (find (λ x. not (p x)) xs)) ≡ not (b && list_all p xs)) [
      | true ↦ found_failing p xs
      | false ↦ refl
    ]

not_both : (a b : Bool) → (not a || not b) ≡ not (a && b)
not_both true b = refl
not_both false b = refl

not_not : (a : Bool) → a ≡ not (not a)
not_not true = refl
not_not false = refl

pub some_other : (p q : Data → Bool) → ((d : Data) → p d ≡ not (q d)) → (ds : List Data) → list_any p ds ≡ not (list_all q ds)
some_other p q e [] = refl
some_other p q e (d ∷ ds) =
    ap (λ b. b || list_any p ds) (e d) ∙ (ap (λ b. not (q d) || b) (some_other p q e ds) ∙ not_both (q d) (list_all q ds))

row_signs : (d : Data) → has_negative d ≡ not (row_fits d)
row_signs d = some_other is_negative (λ w. not (is_negative w)) (λ w. not_not (is_negative w)) (elements d)

pub rows_signs : (d : Data) → has_negative_edit d ≡ not (rows_fit d)
rows_signs d = some_other has_negative row_fits row_signs (elements d)

rows_at : (o : Option Data) → list_any has_negative (elements_in o) ≡ not (passes rows_fit o)
rows_at None = refl
rows_at (Some d) = some_other has_negative row_fits row_signs (elements d)

batches_at : (o : Option Data) → list_any has_negative_edit (elements_in o) ≡ not (passes batches_fit o)
batches_at None = refl
batches_at (Some d) = some_other has_negative_edit rows_fit rows_signs (elements d)

any_at : {P : Type 0} (meaning : Meaning P) (t : Members) → has_negative_word meaning t ≡ (meaning.has_negative_word t || not (passes rows_fit (get_member (codes "memory") t)) || not (passes rows_fit (get_member (codes "args") t)) || not (passes batches_fit (get_member (codes "batches") t)))
any_at meaning t =
    let o = get_member (codes "memory") t in
    let a = get_member (codes "args") t in
    let b = get_member (codes "batches") t in
    ap (λ x. meaning.has_negative_word t || x || list_any has_negative (elements_in a) || list_any has_negative_edit (elements_in b)) (rows_at o)
    ∙ (ap (λ x. meaning.has_negative_word t || not (passes rows_fit o) || x || list_any has_negative_edit (elements_in b)) (rows_at a)
    ∙ ap (λ x. meaning.has_negative_word t || not (passes rows_fit o) || not (passes rows_fit a) || x) (batches_at b))

joined : (a m r b : Bool) → (a || not m || not r || not b) ≡ (a || not (m && r && b))
joined true m r b = refl
joined false false r b = refl
joined false true false b = refl
joined false true true b = refl

or_true : (a : Bool) → (a || true) ≡ true
or_true true = refl
or_true false = refl

signs_of : {P : Type 0} (meaning : Meaning P) (t : Members) → has_negative_word meaning t ≡ (meaning.has_negative_word t || not (has_no_sign t))
signs_of meaning t =
    any_at meaning t ∙ joined (meaning.has_negative_word t) (passes rows_fit (get_member (codes "memory") t)) (passes rows_fit (get_member (codes "args") t)) (passes batches_fit (get_member (codes "batches") t))

-- what was found in the common keys is what is found in all
pub none_told : {P X E : Type 0} (r : Result X E) (meaning : Meaning P) (t : Members) → meaning.has_negative_word t ≡ false → OnOk r (has_no_sign t ≡ true) → OnOk r (has_negative_word meaning t ≡ false)
none_told (Ok x) meaning t none h = signs_of meaning t ∙ rw (none, h) refl
none_told (Err e) meaning t none h = tt

pub one_told : {P X E : Type 0} (r : Result X E) (Q : E → Type 0) (meaning : Meaning P) (t : Members) → IfErr r (λ w. (has_no_sign t ≡ false) × Q w) → IfErr r (λ w. (has_negative_word meaning t ≡ true) × Q w)
one_told (Ok x) Q meaning t h = tt
one_told (Err e) Q meaning t h = (signs_of meaning t ∙ rw (h.0) (or_true (meaning.has_negative_word t)), h.1)

-- something is found, as a reference
pub some_mapped : {A B : Type 0} (f : A → B) (s : Option B) (r : Option A) → option_map f r ≡ s → is_some r ≡ is_some s
some_mapped f s None e = ap is_some e
some_mapped f s (Some x) e = ap is_some e
