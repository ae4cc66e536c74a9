-- How the outputs of a phase are put together at a Turn.
use Rattle.std.proofs.lemmas.Grind.{common_steps}
use Rattle.std.proofs.lemmas.List.{take_all}
use Rattle.std.proofs.Common.{◌≡◌, ℕ, zero, suc, ◌<◌, ◌≤◌, ◌+◌, take, List, [], ◌∷◌, ◌++◌, length, refl, sym, ap, ◌∙◌, arith}
use Rattle.std.specs.Prelude.{Option, Some, None, slice_get, slice_index_or}
use Rattle.bsp_pool.specs.Inside.Turning.{made_unless, missing_of, merged_of}
use Rattle.bsp_pool.specs.Rounds.{RoundParts, opened, finished}
use Rattle.bsp_pool.specs.Machine.{Machine, machine, inputs_of, turned}

taken : {B : Type 0} (outs : List B) (i : ℕ) (out : B) → slice_get outs i ≡ Some out → take i outs ++ out ∷ [] ≡ take (i + 1) outs
taken [] i out at = absurd (cc)
taken (x ∷ xs) zero out at = grind (arith, common_steps)
taken (x ∷ xs) (suc i) out at = let step : suc i + 1 ≡ suc (i + 1) = omega arith in rw step (ap (λ l. x ∷ l) (taken xs i out at))

output_more : {B : Type 0} (outs xs : List B) (i : ℕ) (out : B) → xs ≡ take i outs → slice_get outs i ≡ Some out → xs ++ out ∷ [] ≡ take (i + 1) outs
output_more outs xs i out so_far at = ap (λ l. l ++ out ∷ []) so_far ∙ taken outs i out at

pub length-missing_of : {In Out : Type 0} (does : In → Out) (xs : List In) (os : List (Option Out)) → length (missing_of does xs os) ≡ length xs
length-missing_of does [] os = refl
length-missing_of does (x ∷ xs) [] = ap suc (length-missing_of does xs [])
length-missing_of does (x ∷ xs) (o ∷ os) = ap suc (length-missing_of does xs os)

pub slice_get-missing_of : {In Out : Type 0} (does : In → Out) (xs : List In) (os : List (Option Out)) (k : ℕ) (dx : In) (do' : Option Out) → k < length xs → length os ≡ length xs → slice_get (missing_of does xs os) k ≡ Some (made_unless (slice_index_or os k do') (does (slice_index_or xs k dx)))
slice_get-missing_of does [] os k dx do' lt e = absurd (omega arith)
slice_get-missing_of does (x ∷ xs) [] k dx do' lt e = absurd (omega arith)
slice_get-missing_of does (x ∷ xs) (o ∷ os) zero dx do' lt e = refl
slice_get-missing_of does (x ∷ xs) (o ∷ os) (suc k) dx do' lt e = slice_get-missing_of does xs os k dx do' (omega arith) (omega arith)

-- what was kept, with what was missing, is all outputs
pub merged_of-missing_of : {In Out : Type 0} (does : In → Out) (xs : List In) (os : List (Option Out)) → length os ≡ length xs → merged_of os (missing_of does xs os) ≡ finished does xs os
merged_of-missing_of does [] [] e = refl
merged_of-missing_of does [] (o ∷ os) e = absurd (omega arith)
merged_of-missing_of does (x ∷ xs) [] e = absurd (omega arith)
merged_of-missing_of does (x ∷ xs) (None ∷ os) e = ap (λ l. does x ∷ l) (merged_of-missing_of does xs os (omega arith))
merged_of-missing_of does (x ∷ xs) (Some o ∷ os) e = ap (λ l. o ∷ l) (merged_of-missing_of does xs os (omega arith))

-- the outputs of a turn
pub merged-outputs : {In Out : Type 0} (does : In → Out) (xs : List In) (os kept seen made : List (Option Out)) (outputs : List Out) → outputs ≡ merged_of kept made → kept ≡ os → made ≡ missing_of does xs seen → seen ≡ os → length os ≡ length xs → outputs ≡ finished does xs os
merged-outputs does xs os kept seen made outputs is kept-is made-is seen-is places = rw (is, kept-is, made-is, seen-is) (merged_of-missing_of does xs os places)

pub missing_of-all : {In Out : Type 0} (does : In → Out) (xs : List In) (os : List (Option Out)) (n : ℕ) → length xs ≤ n → take n (missing_of does xs os) ≡ missing_of does xs os
missing_of-all does xs os n past = take_all n (missing_of does xs os) (omega (arith, length-missing_of does xs os))

-- one more output in the list of those that are missing
pub missing_of-more : {In Out : Type 0} (does : In → Out) (xs : List In) (os : List (Option Out)) (k : ℕ) (made new : List (Option Out)) (x : In) (o out : Option Out) → k < length xs → length os ≡ length xs → made ≡ take k (missing_of does xs os)
    → x ≡ slice_index_or xs k x → o ≡ slice_index_or os k o → out ≡ made_unless o (does x) → new ≡ made ++ out ∷ [] → new ≡ take (k + 1) (missing_of does xs os)
missing_of-more does xs os k made new x o out lt same so_far at at' is longer =
    longer
    ∙ output_more (missing_of does xs os) made k out so_far
    (slice_get-missing_of does xs os k x o lt same ∙ ap Some (ap (λ o. made_unless o (does (slice_index_or xs k x))) (sym at') ∙ (ap (λ x. made_unless o (does x)) (sym at) ∙ sym is)))

-- what a Turn leaves is the machine turned
pub turned-is : {Job In Out : Type 0} (does : In → Out) (m : Machine Job In Out) (done : List (List Out)) (next : RoundParts Out) (row : List Out) (inputs next_inputs : List In)
    → inputs ≡ inputs_of m → next_inputs ≡ slice_index_or m.phases (length m.committed + 1) [] → row ≡ finished does inputs m.round.outputs
    → done ≡ m.committed ++ row ∷ [] → next ≡ opened (length next_inputs) (length m.round.workers) → machine m.work m.phases done next ≡ turned does m
turned-is does m done next row inputs next_inputs inputs-is next_inputs-is row-is done-is next-is =
    let full : row ≡ finished does (inputs_of m) m.round.outputs = row-is ∙ ap (λ xs. finished does xs m.round.outputs) inputs-is in
    ap (λ d. machine m.work m.phases d next) (done-is ∙ ap (λ r. m.committed ++ r ∷ []) full)
    ∙ ap (λ n. machine m.work m.phases (m.committed ++ finished does (inputs_of m) m.round.outputs ∷ []) n) (next-is ∙ ap (λ xs. opened (length xs) (length m.round.workers)) next_inputs-is)
