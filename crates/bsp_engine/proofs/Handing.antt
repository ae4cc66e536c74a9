-- What is known of a step that may fail is known where its `Ok` hands another value on.
use Rattle.std.proofs.Common.{◌≡◌, ◌∙◌, Result, Ok, Err, OnOk, subst, sym}
use Rattle.std.specs.Prelude.{IfErr, IfOk}
use Rattle.std.specs.Result.{result_and}

-- the same step, of which more is known
pub told : {X E : Type 0} (r : Result X E) (A B : Type 0) → (A → B) → OnOk r A → OnOk r B
told (Ok x) A B so a = so a
told (Err e) A B so a = tt

pub told_both : {X E : Type 0} (r : Result X E) (A B C : Type 0) → (A → B → C) → OnOk r A → OnOk r B → OnOk r C
told_both (Ok x) A B C so a b = so a b
told_both (Err e) A B C so a b = tt

pub and_told : {X Y E : Type 0} (r : Result X E) (y : Y) (s : Result Y E) (A B : Type 0) → s ≡ result_and r (Ok y) → (A → B) → OnOk r A → OnOk s B
and_told (Ok x) y s A B is so a = let P : Result _ _ → Type 0 = λ t. OnOk t B in subst P (sym is) (so a)
and_told (Err e) y s A B is so a = let P : Result _ _ → Type 0 = λ t. OnOk t B in subst P (sym is) tt

-- it is no other answer
pub and_ok : {X Y E : Type 0} (r : Result X E) (y z : Y) (s : Result Y E) (A B : Type 0) → s ≡ result_and r (Ok y) → OnOk r A → (A → y ≡ z → B) → s ≡ Ok z → B
and_ok (Ok x) y z s A B is h so same = let e : Ok y ≡ Ok z = sym is ∙ same in so h (cc)
and_ok {E} (Err e) y z s A B is h so same = let other : Err e ≡ Ok z = sym is ∙ same in let no : ⊥ = cc in absurd no

pub and_failed : {X Y E : Type 0} (r : Result X E) (y : Y) (s : Result Y E) (Q P : E → Type 0) → s ≡ result_and r (Ok y) → IfErr r Q → ((e : E) → Q e → P e) → IfErr s P
and_failed (Ok x) y s Q P is h so = let F : Result _ _ → Type 0 = λ t. IfErr t P in subst F (sym is) tt
and_failed (Err e) y s Q P is h so = let F : Result _ _ → Type 0 = λ t. IfErr t P in subst F (sym is) (so e h)
