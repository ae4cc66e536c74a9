-- What holds whether a call answered `Ok` or `Err`.
use Rattle.std.proofs.Common.{◌≡◌, subst, sym}
use Rattle.std.specs.Prelude.{Result, Ok, Err, OnOk, OnErr}
use Rattle.std.specs.Result.{result_and}

pub in_both : {T E P Q R : Type 0} (r : Result T E) → (P → R) → (Q → R) → OnOk r P → OnErr r Q → R
in_both (Ok _) from other ok err = from ok
in_both (Err _) from other ok err = other err

-- what each of two promises holds of both, where both together answer a value
pub both_ok : {T U E P Q : Type 0} (a : Result T E) (b : Result U E) (y : U) → Ok y ≡ result_and a b → OnOk a P → OnOk b Q → P × Q
both_ok {Q = Q} (Ok x) b y both first second = (first, subst (λ (r : Result _ _). OnOk r Q) (sym both) second)
both_ok (Err e) b y both first second = absurd (cc)
