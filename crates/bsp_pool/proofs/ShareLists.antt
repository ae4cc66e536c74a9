-- What workers hand over.
use Rattle.std.proofs.Common.{◌≡◌, ℕ, List, [], ◌∷◌, ◌++◌, ◌<◌, ◌∙◌, ap, arith, length, refl, suc, sym, zero}
use Rattle.std.specs.Prelude.{Some, slice_get, map, slice_index_or}
use Rattle.std.proofs.lemmas.List.{map-append}

-- the output of the k-th input
output_at : {A : Type 0} {B : Type 0} (f : A → B) (xs : List A) (k : ℕ) (d : A) → k < length xs → slice_get (map f xs) k ≡ Some (f (slice_index_or xs k d))
output_at f [] k d lt = absurd (omega arith)
output_at f (x ∷ xs) zero d lt = refl
output_at f (x ∷ xs) (suc k) d lt = output_at f xs k d (omega arith)

-- one number more, and its output, where room for both was made first
pub share_added : {T U : Type 0} (does : U → T) (inputs : List U) (ns ns' ns'' : List ℕ) (os os' os'' : List T) (n : ℕ) (x : U) (o : T)
    → map (slice_get (map does inputs)) ns ≡ map Some os → n < length inputs → o ≡ does (slice_index_or inputs n x)
    → ns' ≡ ns → ns'' ≡ ns' ++ n ∷ [] → os' ≡ os → os'' ≡ os' ++ o ∷ [] → map (slice_get (map does inputs)) ns'' ≡ map Some os''
share_added does inputs ns ns' ns'' os os' os'' n x o before lt is room more room' more' =
    let outs = map does inputs in
    let made : slice_get outs n ≡ Some o = output_at does inputs n x lt ∙ ap Some (sym is) in
    ap (map (slice_get outs)) (more ∙ ap (λ l. l ++ n ∷ []) room)
    ∙ (map-append (slice_get outs) ns (n ∷ [])
    ∙ (ap (λ l. l ++ slice_get outs n ∷ []) before
    ∙ (ap (λ y. map Some os ++ y ∷ []) made
    ∙ (sym (map-append Some os (o ∷ []))
    ∙ ap (map Some) (sym (more' ∙ ap (λ l. l ++ o ∷ []) room'))))))
