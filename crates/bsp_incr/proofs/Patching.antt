-- What a list is in which items are replaced.
use Rattle.std.proofs.Common.{◌≡◌, ◌≢◌, ◌<◌, ◌+◌, ℕ, zero, suc, Bool, true, false, cond, List, ◌∷◌, map, length, get_or, arith, refl, sym, ap, ◌∙◌, inl, inr}
use Rattle.std.specs.Prelude.{filter, slice_set}
use Rattle.std.specs.List.{range_with_len}
use Rattle.std.proofs.Math.ListN.{length-set}
use Rattle.std.proofs.lemmas.Bool.{cases_lt}
use Rattle.std.proofs.lemmas.List.{get_or-set_same, get_or-set_other}
use Rattle.std.proofs.lemmas.List.FromFn.{fill_by_all}
use Rattle.bsp_deliver.specs.Requests.{each_below}
use Rattle.bsp_model.specs.Replaced.{replaced}
use Rattle.bsp_model.proofs.Replaced.{length-replaced}
use Rattle.bsp_model.specs.ProcessSet.{processes_where}

-- the items, with what f gives at these places
abbrev pub patched : {X : Type 0} → (ℕ → X) → List X → List ℕ → List X
patched f items ps = replaced items ps (map f ps)

-- nothing is put before the first place ..
before_if : {X : Type 0} (f : ℕ → X) (later : List ℕ) (b : Bool) (a p : ℕ) (items : List X) (d : X) → p < a → ((js : List X) → get_or (patched f js later) p d ≡ get_or js p d) → get_or (patched f items (cond b (a ∷ later) later)) p d ≡ get_or items p d
before_if f later true a p items d l h =
    let other : p ≢ a = λ e. absurd (omega (arith, l, e)) in
    h (slice_set items a (f a)) ∙ get_or-set_other items a p (f a) d other
before_if f later false a p items d l h = h items

before_from : {X : Type 0} (f : ℕ → X) (test : ℕ → Bool) (a n p : ℕ) (items : List X) (d : X) → p < a → get_or (patched f items (filter test (range_with_len a n))) p d ≡ get_or items p d
before_from f test a zero p items d l = refl
before_from f test a (suc n) p items d l =
    before_if f (filter test (range_with_len (a + 1) n)) (test a) a p items d l (λ js. before_from f test (a + 1) n p js d (omega arith))

-- .. what is put at a place stays ..
at_if : {X : Type 0} (f : ℕ → X) (later : List ℕ) (b : Bool) (a : ℕ) (items : List X) (d : X) → a < length items → ((js : List X) → get_or (patched f js later) a d ≡ get_or js a d) → get_or (patched f items (cond b (a ∷ later) later)) a d ≡ cond b (f a) (get_or items a d)
at_if f later true a items d l h = h (slice_set items a (f a)) ∙ get_or-set_same items a (f a) d l
at_if f later false a items d l h = h items

-- .. and so does what is put later.
after_if : {X : Type 0} (f : ℕ → X) (test : ℕ → Bool) (later : List ℕ) (b : Bool) (a p : ℕ) (items : List X) (d : X) → a < p → p < length items → ((js : List X) → p < length js → get_or (patched f js later) p d ≡ cond (test p) (f p) (get_or js p d)) → get_or (patched f items (cond b (a ∷ later) later)) p d ≡ cond (test p) (f p) (get_or items p d)
after_if f test later true a p items d l m h =
    let other : p ≢ a = λ e. absurd (omega (arith, l, e)) in
    let long : length (slice_set items a (f a)) ≡ length items = length-set items a (f a) in
    h (slice_set items a (f a)) (omega (arith, m, long)) ∙ ap (λ x. cond (test p) (f p) x) (get_or-set_other items a p (f a) d other)
after_if f test later false a p items d l m h = h items m

at_same : {X : Type 0} (f : ℕ → X) (test : ℕ → Bool) (a p : ℕ) (items : List X) (ps : List ℕ) (d : X) → p ≡ a → get_or (patched f items ps) a d ≡ cond (test a) (f a) (get_or items a d) → get_or (patched f items ps) p d ≡ cond (test p) (f p) (get_or items p d)
at_same f test a p items ps d e h = ap (λ k. get_or (patched f items ps) k d) e ∙ h ∙ ap (λ k. cond (test k) (f k) (get_or items k d)) (sym e)

patched_from : {X : Type 0} (f : ℕ → X) (test : ℕ → Bool) (a n p : ℕ) (items : List X) (d : X) → a < p + 1 → p < a + n → p < length items → get_or (patched f items (filter test (range_with_len a n))) p d ≡ cond (test p) (f p) (get_or items p d)
patched_from f test a zero p items d low high l = absurd (omega arith)
patched_from f test a (suc n) p items d low high l =
    let later = filter test (range_with_len (a + 1) n) in
    elim (cases_lt a p) [
      | inl w ↦ after_if f test later (test a) a p items d w l (λ js m. patched_from f test (a + 1) n p js d (omega arith) (omega arith) m)
      | inr w ↦
          at_same f test a p items (cond (test a) (a ∷ later) later) d (omega arith)
          (at_if f later (test a) a items d (omega arith) (λ js. before_from f test (a + 1) n a js d (omega arith)))
    ]

-- At a process there is what was put there, or what there was.
pub patched_at : {X : Type 0} (f : ℕ → X) (test : ℕ → Bool) (n p : ℕ) (items : List X) (d : X) → p < n → p < length items → get_or (patched f items (processes_where n test)) p d ≡ cond (test p) (f p) (get_or items p d)
patched_at f test n p items d l m = patched_from f test 0 n p items d (omega arith) (omega arith) m

pub put_or_there : {X : Type 0} (b : Bool) (x y : X) → (b ≡ false → y ≡ x) → cond b x y ≡ x
put_or_there true x y h = refl
put_or_there false x y h = h refl

-- A list is all of f, where it is wherever nothing is put.
pub patched_is : {X : Type 0} (f : ℕ → X) (test : ℕ → Bool) (n : ℕ) (items : List X) (d : X) → length items ≡ n → ((p : ℕ) → p < n → test p ≡ false → get_or items p d ≡ f p) → patched f items (processes_where n test) ≡ each_below n f
patched_is f test n items d long there =
    let ps = processes_where n test in
    fill_by_all f (patched f items ps) n d (length-replaced items ps (map f ps) ∙ long)
    (λ p l. patched_at f test n p items d l (omega (arith, long)) ∙ put_or_there (test p) (f p) (get_or items p d) (there p l))
