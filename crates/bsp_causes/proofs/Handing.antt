-- What is known of a step that may fail is known where its `Ok` hands another value on.
use Rattle.std.proofs.Common.{◌≡◌, Result, Ok, Err, OnOk, subst, sym}
use Rattle.std.specs.Prelude.{IfOk}
use Rattle.std.specs.Result.{result_and}

pub and_given : {X Y E A : Type 0} (r : Result X E) (y : Y) (s : Result Y E) (Q : Y → Type 0) → s ≡ result_and r (Ok y) → (A → Q y) → OnOk r A → IfOk s Q
and_given (Ok x) y s Q is so a = let P : Result _ _ → Type 0 = λ t. IfOk t Q in subst P (sym is) (so a)
and_given (Err e) y s Q is so a = let P : Result _ _ → Type 0 = λ t. IfOk t Q in subst P (sym is) tt
