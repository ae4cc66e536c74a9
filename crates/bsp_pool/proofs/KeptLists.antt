-- Outputs that are kept by number.
use Rattle.std.proofs.Common.{◌≡◌, ◌≢◌, ℕ, List, [], ◌∷◌, ◌++◌, length, sym, ap, ◌∙◌, subst, ⊎_elim, refl, replicate}
use Rattle.std.proofs.Math.ListN.{length-set, length-replicate}
use Rattle.std.proofs.lemmas.List.{length-map}
use Rattle.std.specs.Prelude.{Option, None, Some, map, slice_get, slice_set}
use Rattle.bsp_pool.specs.Inside.Kept.{AreKept}
use Rattle.bsp_pool.specs.Inside.Turning.{merged_of, missing_of}
use Rattle.bsp_pool.proofs.TurnLists.{merged_of-missing_of}
use Rattle.bsp_pool.proofs.RoundSteps.{get-set_cases, get-replicate, finished-kept}

-- what the last of a share's numbers and outputs say
pub last_of_share : {T : Type 0} (outs : List T) (ns : List ℕ) (os : List T) (n : ℕ) (o : T) → map (slice_get outs) (ns ++ n ∷ []) ≡ map Some (os ++ o ∷ []) → (map (slice_get outs) ns ≡ map Some os) × (slice_get outs n ≡ Some o)
last_of_share outs [] [] n o h = (refl, cc)
last_of_share outs [] (p ∷ []) n o h = absurd (cc)
last_of_share outs [] (p ∷ q ∷ os) n o h = absurd (cc)
last_of_share outs (m ∷ []) [] n o h = absurd (cc)
last_of_share outs (m ∷ k ∷ ns) [] n o h = absurd (cc)
last_of_share outs (m ∷ ns) (p ∷ os) n o h =
    let first : slice_get outs m ≡ Some p = cc in
    let rest : map (slice_get outs) (ns ++ n ∷ []) ≡ map Some (os ++ o ∷ []) = cc in
    let found = last_of_share outs ns os n o rest in
    (ap (λ x. x ∷ map (slice_get outs) ns) first ∙ ap (λ l. Some p ∷ l) found.0, found.1)

-- one output more is kept
pub kept_more : {T : Type 0} (outs : List T) (kept new : List (Option T)) (n : ℕ) (out : T) → AreKept outs kept → slice_get outs n ≡ Some out → new ≡ slice_set kept n (Some out) → AreKept outs new
kept_more {T = T} outs kept new n out h at is =
    let long : length (slice_set kept n (Some out)) ≡ length kept = length-set kept n (Some out) in
    subst (AreKept outs) (sym is) (record {
      places = long ∙ h.places;
      right = λ k o e. ⊎_elim
          (λ (here : (k ≡ n) × (Some out ≡ Some o)). let same : out ≡ o = cc in ap (slice_get outs) here.0 ∙ (at ∙ ap Some same))
          (λ (there : (k ≢ n) × (slice_get kept k ≡ Some (Some o))). h.right k o there.1)
          (get-set_cases kept n k (Some out) (Some o) e);
    })

-- nothing is kept yet
pub none_kept : {In Out : Type 0} (does : In → Out) (inputs : List In) (kept : List (Option Out)) → kept ≡ replicate (length inputs) None → AreKept (map does inputs) kept
none_kept {Out = Out} does inputs kept is =
    subst (AreKept (map does inputs)) (sym is) (record {
      places = length-replicate (length inputs) None ∙ sym (length-map inputs does);
      right = λ n o e. let bad = get-replicate {X = Option Out} (length inputs) n None (Some o) e in absurd (cc);
    })

-- what is kept, with what is missing, is the outputs of all inputs
pub all_outputs : {In Out : Type 0} (does : In → Out) (inputs : List In) (kept : List (Option Out)) (made : List (Option Out)) → AreKept (map does inputs) kept → made ≡ missing_of does inputs kept → merged_of kept made ≡ map does inputs
all_outputs does inputs kept made h is =
    let same : length kept ≡ length inputs = h.places ∙ length-map inputs does in
    ap (merged_of kept) is ∙ (merged_of-missing_of does inputs kept same ∙ finished-kept does inputs kept same h.right)
