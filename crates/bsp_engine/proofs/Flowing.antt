-- Known bytes that grow or are lost piece by piece.
use Rattle.std.proofs.Common.{◌≡◌, ℕ, ◌+◌, ◌-◌, ◌≤◌, List, ◌++◌, length, take, drop, Option, Some, None, sym, ap, ◌∙◌, append_assoc, length-append, length-drop, arith}
use Rattle.std.specs.Io.KnownBytes.{Appends, Consumes}
use Rattle.std.proofs.Math.Seq.{take-length, take-add}
use Rattle.bsp_engine.specs.Flow.{TakesAtMost}

pub appends_more : (a b c : Option (List ℕ)) (xs ys : List ℕ) → Appends a b xs → Appends b c ys → Appends a c (xs ++ ys)
appends_more None b c xs ys h i = tt
appends_more (Some a1) None c xs ys h i = absurd h
appends_more (Some a1) (Some b1) None xs ys h i = absurd i
appends_more (Some a1) (Some b1) (Some c1) xs ys h i = i ∙ (ap (λ l. l ++ ys) h ∙ append_assoc a1 xs ys)

pub consumes_more : (a b c : Option (List ℕ)) (xs ys : List ℕ) → Consumes a b xs → Consumes b c ys → Consumes a c (xs ++ ys)
consumes_more None b c xs ys h i = tt
consumes_more (Some a1) None c xs ys h i = absurd h
consumes_more (Some a1) (Some b1) None xs ys h i = absurd i
consumes_more (Some a1) (Some b1) (Some c1) xs ys h i = h ∙ (ap (λ l. xs ++ l) i ∙ sym (append_assoc xs ys c1))

-- at most so many in all, where so many had been lost
pub takes_more : (a b c : Option (List ℕ)) (xs : List ℕ) (n m : ℕ) → Consumes a b xs → TakesAtMost n b c → length xs + n ≤ m → TakesAtMost m a c
takes_more a b c xs n m h t fits =
    (xs ++ t.0, omega (arith, length-append xs t.0, t.1), consumes_more a b c xs t.0 h t.2)

-- what is written next, after what was
pub take_next : (at n : ℕ) (xs : List ℕ) → take at xs ++ take n (take (length xs - at) (drop at xs)) ≡ take (at + n) xs
take_next at n xs =
    let whole : take (length xs - at) (drop at xs) ≡ drop at xs = rw (← length-drop at xs) (take-length (drop at xs)) in
    ap (λ l. take at xs ++ take n l) whole ∙ sym (take-add at n xs)
