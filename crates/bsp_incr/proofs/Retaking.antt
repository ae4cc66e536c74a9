-- Which places need their turn, one after the other.
use Rattle.std.proofs.Common.{◌≡◌, ◌≤◌, ◌<◌, ◌+◌, ◌-◌, ℕ, zero, suc, Bool, true, false, cond, List, [], ◌∷◌, Option, None, Some, map, length, take, drop, get_or, slice_get, not, arith, refl, sym, ap, ◌∙◌, inl, inr}
use Rattle.std.specs.Prelude.{filter, slice_range, ◌&&◌}
use Rattle.std.specs.List.{range_with_len}
use Rattle.std.proofs.lemmas.Bool.{cases_lt}
use Rattle.std.proofs.lemmas.List.{get_or_default, get_or-map, length-map}
use Rattle.std.proofs.lemmas.List.FromFn.{fill_by_all, get_or-map-range_with_len}
use Rattle.std.proofs.lemmas.Option.{slice_get-get_or, slice_get_past}
use Rattle.bsp_step.specs.ViewParts.{ViewParts}
use Rattle.bsp_step.specs.OutcomeParts.{OutcomeParts, no_outcome}
use Rattle.bsp_run.specs.Condition.{no_view}
use Rattle.bsp_run.specs.Shares.{turns_of}
use Rattle.bsp_run.proofs.Shares.{turns_of-all}
use Rattle.bsp_incr.specs.Inside.Reuse.{needs_turn, serves}
use Rattle.bsp_incr.specs.Inside.Changes.{differs}
use Rattle.bsp_incr.specs.Inside.Marks.{ViewsDifferAtMost}
use Rattle.bsp_model.specs.ProcessSet.{processes_in, processes_where}
use Rattle.bsp_deliver.specs.Requests.{each_below}
use Rattle.bsp_model.specs.Replaced.{replaced}
use Rattle.bsp_incr.proofs.Gathering.{all_where, filter_from, filter_twice, processes_where-each_below}
use Rattle.bsp_incr.proofs.Patching.{patched, patched_is}
use Rattle.bsp_incr.proofs.Serving.{serves-itself}
use Rattle.bsp_model.proofs.Inputs.{not_false}

-- where the previous run has no view of the process
pub differs-none : (looks : ViewParts → ℕ → Bool) (old new : List ViewParts) (p : ℕ) → length old ≤ p → differs looks old new p ≡ true
differs-none looks old new p l =
    let none : slice_get old p ≡ None = slice_get_past old p l in
    ap (λ (o : Option ViewParts). needs_turn looks o (get_or new p no_view)) none

-- where it has one
pub differs-some : (looks : ViewParts → ℕ → Bool) (old new : List ViewParts) (p : ℕ) → p < length old → differs looks old new p ≡ not (serves looks (get_or old p no_view) (get_or new p no_view))
differs-some looks old new p l = ap (λ (o : Option ViewParts). needs_turn looks o (get_or new p no_view)) (slice_get-get_or old p no_view l)

-- an equal view serves
pub differs-same : (looks : ViewParts → ℕ → Bool) (old new : List ViewParts) (p : ℕ) → p < length old → get_or old p no_view ≡ get_or new p no_view → differs looks old new p ≡ false
differs-same looks old new p l e =
    differs-some looks old new p l ∙ ap (λ (v : ViewParts). not (serves looks v (get_or new p no_view))) e ∙ ap not (serves-itself looks (get_or new p no_view))

unneeded_if : (looks : ViewParts → ℕ → Bool) (o : Option ViewParts) (w : ViewParts) → needs_turn looks o w ≡ false → (v : ViewParts) × (o ≡ Some v) × (serves looks v w ≡ true)
unneeded_if looks None w h = cc
unneeded_if looks (Some v) w h = (v, refl, not_false (serves looks v w) h)

-- where no turn is needed, the previous run has a view that serves
pub unneeded : (looks : ViewParts → ℕ → Bool) (old new : List ViewParts) (p : ℕ) → differs looks old new p ≡ false → (p < length old) × (serves looks (get_or old p no_view) (get_or new p no_view) ≡ true)
unneeded looks old new p h =
    let some = unneeded_if looks (slice_get old p) (get_or new p no_view) h in
    elim (cases_lt p (length old)) [
      | inl w ↦
          let v : Some (get_or old p no_view) ≡ Some some.0 = sym (slice_get-get_or old p no_view w) ∙ some.1 in
          let same : get_or old p no_view ≡ some.0 = cc in
          (w, ap (λ (x : ViewParts). serves looks x (get_or new p no_view)) same ∙ some.2)
      | inr w ↦ let none : slice_get old p ≡ None = slice_get_past old p w in let both : None ≡ Some some.0 = sym none ∙ some.1 in cc
    ]

pub served_there : (looks : ViewParts → ℕ → Bool) (old new : List ViewParts) (p : ℕ) (v w : ViewParts) → v ≡ get_or old p no_view → w ≡ get_or new p no_view → serves looks (get_or old p no_view) (get_or new p no_view) ≡ true → serves looks v w ≡ true
served_there looks old new p v w e f served = ap (λ x. serves looks x w) e ∙ ap (serves looks (get_or old p no_view)) f ∙ served

-- The processes at which views may differ have all whose turn is needed ..
needed_if : (b d : Bool) → (b ≡ false → d ≡ false) → (b && d) ≡ d
needed_if true d h = refl
needed_if false d h = sym (h refl)

pub needed_among : (looks : ViewParts → ℕ → Bool) (old new : List ViewParts) (set : List Bool) → ViewsDifferAtMost old new set → filter (differs looks old new) (processes_in set) ≡ processes_where (length new) (differs looks old new)
needed_among looks old new set h =
    let d = differs looks old new in
    filter_twice (λ p. get_or set p false) d (range_with_len 0 (length set)) ∙ ap (λ n. processes_where n (λ p. get_or set p false && d p)) h.count
    ∙ filter_from (λ p. get_or set p false && d p) d 0 (length new)
    (λ p low high.
    let l : p < length new = omega arith in
    let among : p < length set = omega (arith, l, h.count) in
    needed_if (get_or set p false) (d p) (λ t. let seen = h.same p l (get_or_default set p true false among ∙ t) in differs-same looks old new p seen.0 seen.1))

-- so the dirty processes that need their turn are those of all
pub needed_are : (looks : ViewParts → ℕ → Bool) (old new : List ViewParts) (set needed : List Bool) → ViewsDifferAtMost old new set → needed ≡ each_below (length new) (differs looks old new) → processes_in needed ≡ filter (differs looks old new) (processes_in set)
needed_are looks old new set needed h is = processes_where-each_below (length new) (differs looks old new) needed is ∙ sym (needed_among looks old new set h)

-- where the previous run has no such superstep, all do
pub all_needed : (looks : ViewParts → ℕ → Bool) (old new : List ViewParts) (set : List Bool) → length old ≡ 0 → ViewsDifferAtMost old new set → set ≡ each_below (length new) (differs looks old new)
all_needed looks old new set none h =
    fill_by_all (differs looks old new) set (length new) true h.count
    (λ p l. elim (get_or set p true) as (λ b. get_or set p true ≡ b → get_or set p true ≡ differs looks old new p) [
      | true ↦ λ e. e ∙ sym (differs-none looks old new p (omega (arith, none)))
      | false ↦ λ e. absurd (omega (arith, (h.same p l e).0, none))
    ] refl)

-- The next of those that pass a test, where the first k were gone over.
passes_if : {X : Type 0} (f : ℕ → X) (b : Bool) (p : ℕ) (front rest : List ℕ) (d x : X) → (length front < length rest) × (get_or (map f rest) (length front) d ≡ x)
    → (length (cond b (p ∷ front) front) < length (cond b (p ∷ rest) rest)) × (get_or (map f (cond b (p ∷ rest) rest)) (length (cond b (p ∷ front) front)) d ≡ x)
passes_if f true p front rest d x h = (omega (arith, h.0), h.1)
passes_if f false p front rest d x h = h

passes_first : {X : Type 0} (f : ℕ → X) (b : Bool) (p : ℕ) (rest : List ℕ) (d : X) → b ≡ true → (0 < length (cond b (p ∷ rest) rest)) × (get_or (map f (cond b (p ∷ rest) rest)) 0 d ≡ f p)
passes_first f true p rest d e = (omega arith, refl)
passes_first f false p rest d e = cc

pub next_passes : {X : Type 0} (f : ℕ → X) (t : ℕ → Bool) (ps : List ℕ) (k : ℕ) (d : X) → k < length ps → t (get_or ps k 0) ≡ true
    → (length (filter t (take k ps)) < length (filter t ps)) × (get_or (map f (filter t ps)) (length (filter t (take k ps))) d ≡ f (get_or ps k 0))
next_passes f t [] k d l e = absurd (omega (arith, l))
next_passes f t (p ∷ later) zero d l e = passes_first f (t p) p (filter t later) d e
next_passes f t (p ∷ later) (suc k) d l e = passes_if f (t p) p (filter t (take k later)) (filter t later) d (f (get_or later k 0)) (next_passes f t later k d (omega (arith, l)) e)

-- what the set of those says of one
pub needed_there : (n : ℕ) (test : ℕ → Bool) (needed : List Bool) (p : ℕ) → p < n → needed ≡ each_below n test → get_or needed p false ≡ test p
needed_there n test needed p l is = ap (λ (bs : List Bool). get_or bs p false) is ∙ get_or-map-range_with_len test 0 n p p false l (omega arith)

-- a list of which as many pass as it has
fewer_if : (b : Bool) (p : ℕ) (rest later : List ℕ) → length rest ≤ length later → length (cond b (p ∷ rest) rest) ≤ length (p ∷ later)
fewer_if true p rest later h = omega (arith, h)
fewer_if false p rest later h = omega (arith, h)

pub fewer : (t : ℕ → Bool) (ps : List ℕ) → length (filter t ps) ≤ length ps
fewer t [] = omega arith
fewer t (p ∷ later) = fewer_if (t p) p (filter t later) later (fewer t later)

all_if : (b : Bool) (p : ℕ) (rest later : List ℕ) → length rest ≤ length later → (length rest ≡ length later → rest ≡ later) → length (cond b (p ∷ rest) rest) ≡ length (p ∷ later) → cond b (p ∷ rest) rest ≡ p ∷ later
all_if true p rest later few same h = ap (λ ks. p ∷ ks) (same (omega (arith, h)))
all_if false p rest later few same h = absurd (omega (arith, few, h))

pub all_pass : (t : ℕ → Bool) (ps : List ℕ) → length (filter t ps) ≡ length ps → filter t ps ≡ ps
all_pass t [] h = refl
all_pass t (p ∷ later) h = all_if (t p) p (filter t later) later (fewer t later) (all_pass t later) h

first_of : {X : Type 0} (xs : List X) (n : ℕ) (d : X) → n < length xs → take 1 (drop n xs) ≡ get_or xs n d ∷ []
first_of [] n d l = absurd (omega (arith, l))
first_of (x ∷ xs) zero d l = refl
first_of (x ∷ xs) (suc n) d l = first_of xs n d (omega (arith, l))

-- one item of a list
pub one_of : {X : Type 0} (xs : List X) (n : ℕ) (d : X) → n < length xs → slice_range xs n (n + 1) ≡ get_or xs n d ∷ []
one_of xs n d l = let one : n + 1 - n ≡ 1 = omega arith in ap (λ k. take k (drop n xs)) one ∙ first_of xs n d l

-- The recorded outcomes, with the turns of the dirty processes in their places, are the turns of the new views.
pub turns_in_place : (turn : ViewParts → OutcomeParts) (old new : List ViewParts) (set : List Bool) (os us : List OutcomeParts) (dirty : List ℕ) → ViewsDifferAtMost old new set → length old ≡ length new → os ≡ map turn old
    → dirty ≡ processes_in set → us ≡ turns_of turn new dirty → replaced os dirty us ≡ map turn new
turns_in_place turn old new set os us dirty h long recorded are u =
    let f : ℕ → OutcomeParts = λ p. turn (get_or new p no_view) in
    let count = length new in
    let many : length os ≡ count = ap (λ (xs : List OutcomeParts). length xs) recorded ∙ length-map old turn ∙ long in
    let there : (p : ℕ) → p < count → get_or set p false ≡ false → get_or os p no_outcome ≡ f p =
    λ p l t.
    let among : p < length set = omega (arith, l, h.count) in
    let seen = h.same p l (get_or_default set p true false among ∙ t) in
    ap (λ (xs : List OutcomeParts). get_or xs p no_outcome) recorded ∙ get_or-map turn old p no_view no_outcome seen.0 ∙ ap turn seen.1 in
    ap (replaced os dirty) u
    ∙ ap (λ (ps : List ℕ). patched f os ps) (are ∙ ap (λ n. processes_where n (λ p. get_or set p false)) h.count)
    ∙ patched_is f (λ p. get_or set p false) count os no_outcome many there
    ∙ turns_of-all turn new

-- Where the previous run has no such superstep, every turn is needed.
pub turns_of_none : (turn : ViewParts → OutcomeParts) (looks : ViewParts → ℕ → Bool) (old new : List ViewParts) (needed : List ℕ) (ws : List OutcomeParts) → length old ≡ 0 → needed ≡ processes_where (length new) (differs looks old new) → ws ≡ turns_of turn new needed → ws ≡ map turn new
turns_of_none turn looks old new needed ws none n w =
    w ∙ ap (turns_of turn new) (n ∙ all_where (length new) (differs looks old new) (λ p l. differs-none looks old new p (omega (arith, none)))) ∙ turns_of-all turn new
