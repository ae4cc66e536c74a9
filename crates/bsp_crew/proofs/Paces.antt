-- What is known of a pace from superstep to superstep.
use Rattle.std.proofs.Common.{◌≡◌, Bool, true, false, Option, None, Some, subst}
use Rattle.std.specs.Prelude.{IfNone}

-- no pace calls workers where there is none
pub no_call : {X : Type 0} (Q : Type 0) (given now : Option X) (calls : Bool) → IfNone given (now ≡ None) → IfNone now (calls ≡ false) → calls ≡ true → IfNone given Q
no_call Q (Some x) now calls same never called = tt
no_call Q None now calls same never called =
    let off : calls ≡ false = subst (λ (o : Option _). IfNone o (calls ≡ false)) same never in absurd (cc)

-- what there is none of stays so
pub still_none : {X : Type 0} (given now next : Option X) → IfNone given (now ≡ None) → IfNone now (next ≡ None) → IfNone given (next ≡ None)
still_none (Some x) now next same none = tt
still_none None now next same none = subst (λ (o : Option _). IfNone o (next ≡ None)) same none
