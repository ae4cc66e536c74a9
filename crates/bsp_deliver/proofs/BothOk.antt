-- Two results of which the second counts where the first is no error.
use Rattle.std.proofs.Common.{◌≡◌, Result, Ok, Err, subst, sym}
use Rattle.std.specs.Prelude.{OnOk}
use Rattle.std.specs.Result.{result_and}
use Rattle.std.proofs.lemmas.Result.{on_ok_weaker}

-- what the first promises holds of both together
pub on_first_ok : {T U E : Type 0} (P : Type 0) (a : Result T E) (b r : Result U E) → r ≡ result_and a b → OnOk a P → OnOk r P
on_first_ok P (Ok x) b (Ok y) both first = first
on_first_ok P (Err e) b (Ok y) both first = absurd (cc)
on_first_ok P a b (Err e) both first = tt

-- what each promises holds of both together
pub on_both_ok : {T U E : Type 0} (P Q : Type 0) (a : Result T E) (b r : Result U E) → r ≡ result_and a b → OnOk a P → OnOk b Q → OnOk r (P × Q)
on_both_ok P Q (Ok x) b r is first second = subst (λ (s : Result _ _). OnOk s (P × Q)) (sym is) (on_ok_weaker b (λ other. (first, other)) second)
on_both_ok P Q (Err e) b r is first second = subst (λ (s : Result _ _). OnOk s (P × Q)) (sym is) tt
