-- Facts that hold whatever comes of a call.
use Rattle.std.proofs.Common.{Err, Ok, OnOk, Result}

pub on_ok : {T E P : Type 0} (r : Result T E) → P → OnOk r P
on_ok (Ok x) p = p
on_ok (Err e) p = tt
