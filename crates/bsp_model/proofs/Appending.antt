-- Lists that are put behind others whole.
use Rattle.std.proofs.Common.{◌≡◌, List, ℕ, Result, Ok, Err, drop, length, take, ap, ◌∙◌, arith}
use Rattle.std.proofs.Math.Seq.{take-length}
use Rattle.std.specs.Prelude.{OnOk, slice_range}

-- all of a list
pub whole : {X : Type 0} (xs : List X) (n : ℕ) → n ≡ length xs → slice_range xs 0 n ≡ xs
whole xs n is = ap (λ (k : ℕ). take k (drop 0 xs)) (omega (arith, is)) ∙ take-length xs

-- what is promised of an answer that is no error
pub on_ok : {T E P : Type 0} (r : Result T E) (x : T) → r ≡ Ok x → OnOk r P → P
on_ok (Ok y) x is p = p
on_ok (Err e) x is p = absurd (cc)
