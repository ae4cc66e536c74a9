-- A batch that takes another one back.
use Rattle.std.proofs.Common.{◌≡◌, ◌<◌, ◌+◌, ℕ, suc, true, None, List, [], ◌∷◌, ◌++◌, map, length, get_or, refl, sym, ap, ◌∙◌, arith}
use Rattle.std.specs.Prelude.{Any}
use Rattle.std.proofs.lemmas.List.{get_or-map, length-map, length-append, get_or-append-add}
use Rattle.bsp_model.specs.declared.input.Input.{Input}
use Rattle.bsp_model.specs.Input.{input_fault}
use Rattle.std.proofs.lemmas.Bool.Decides.{nat_tests}
use Rattle.bsp_model.proofs.Inputs.{lawful_input}
use Rattle.bsp_incr.specs.declared.edit.Edit.{Edit}
use Rattle.bsp_incr.specs.declared.edit.Edit.TheVariants.{Word, Arg, Limit, Prices}
use Rattle.bsp_incr.specs.Edits.{edit_fault, refusal_from, refusal_of, edited}
use Rattle.bsp_incr.specs.Undo.{same_part, former_of, undo_of}
use Rattle.bsp_incr.specs.Undo.{TakesBack}
use Rattle.bsp_incr.proofs.EditParts.{former_part, former_there}
use Rattle.bsp_incr.proofs.EditSequences.{edited-append, stays, both_none, none_both, overwritten}

-- the values that are there leave the input as it is
all_there : (i : Input) (es : List Edit) → edited i (map (former_of i) es) ≡ i
all_there i [] = refl
all_there i (e ∷ es) = ap (λ (j : Input). edited j (map (former_of i) es)) (former_there i e) ∙ all_there i es

-- an edit of the part is among these
abbrev HasLater : List Edit → Edit → Type 0
HasLater later d = Any (λ e. same_part d e ≡ true) later

further : (rest later : List Edit) (d : Edit) → HasLater later d → HasLater (rest ++ later) d
further rest later d (k, x, l, at, same) = (length rest + k, x, omega (arith, length-append rest later), get_or-append-add rest later k x ∙ at, same)

former_among : (i : Input) (es : List Edit) (k : ℕ) → (d : Edit) → k < length es → HasLater (map (former_of i) es) (get_or es k d)
former_among i es k d l =
    let e = get_or es k d in
    (k, former_of i e, omega (arith, length-map es (former_of i)), get_or-map (former_of i) es k d (former_of i e) l, former_part i e)

swept : (j : Input) (es later : List Edit) → ((k : ℕ) (d : Edit) → k < length es → HasLater later (get_or es k d)) → edited j (es ++ later) ≡ edited j later
swept j [] later h = refl
swept j (e ∷ es) later h =
    overwritten j e (es ++ later) (further es later e (h 0 e (omega arith))) ∙ swept j es later (λ k d l. h (suc k) d (omega arith))

fault_former : (i : Input) (e : Edit) → input_fault i ≡ None → edit_fault i e ≡ None → edit_fault i (former_of i e) ≡ None
fault_former i (Word p a x) h k = k
fault_former i (Arg p a x) h k = k
fault_former i (Limit n) h k = let lawful = lawful_input i h in grind (arith, nat_tests, lawful.some_superstep, lawful.few_supersteps)
fault_former i (Prices g l) h k = let lawful = lawful_input i h in grind (arith, nat_tests, lawful.small_g, lawful.small_l)

all_accepted : (i : Input) (place : ℕ) (es : List Edit) → input_fault i ≡ None → refusal_from i place es ≡ None → refusal_from i place (map (former_of i) es) ≡ None
all_accepted i place [] h k = refl
all_accepted i place (e ∷ es) h k =
    let two = none_both place (edit_fault i e) (refusal_from i (place + 1) es) k in
    both_none place (edit_fault i (former_of i e)) (refusal_from i (place + 1) (map (former_of i) es)) (fault_former i e h two.0) (all_accepted i (place + 1) es h two.1)

pub undone : (i : Input) (es : List Edit) → input_fault i ≡ None → refusal_of i es ≡ None → TakesBack i es (undo_of i es)
undone i es lawful none =
    record {
      accepted = stays i es (undo_of i es) ∙ all_accepted i 0 es lawful none;
      input = sym (edited-append i es (undo_of i es)) ∙ swept i es (undo_of i es) (former_among i es) ∙ all_there i es;
    }
