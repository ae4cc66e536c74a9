-- Batches, one after the other.
use Rattle.std.proofs.Common.{◌≡◌, ◌+◌, ℕ, zero, suc, Bool, true, false, Option, None, Some, List, [], ◌∷◌, ◌++◌, refl, sym, ap, ◌∙◌, arith}
use Rattle.std.specs.Prelude.{Any}
use Rattle.bsp_model.specs.declared.input.Input.{Input}
use Rattle.bsp_incr.specs.declared.edit.Edit.{Edit}
use Rattle.bsp_incr.specs.declared.edit.EditFault.{EditFault}
use Rattle.bsp_incr.specs.declared.edit.EditRefusal.{EditRefusal}
use Rattle.bsp_incr.specs.Edits.{edit_fault, refusal_or, refusal_from, refusal_of, edited_by, edited}
use Rattle.bsp_incr.specs.Undo.{same_part}
use Rattle.bsp_incr.proofs.EditParts.{last_wins, commute, fault_stays}

pub edited-append : (i : Input) (a b : List Edit) → edited i (a ++ b) ≡ edited (edited i a) b
edited-append i [] b = refl
edited-append i (e ∷ a) b = edited-append (edited_by i e) a b

-- which batches are accepted stays

stays_after_edit : (i : Input) (d : Edit) (place : ℕ) (b : List Edit) → refusal_from (edited_by i d) place b ≡ refusal_from i place b
stays_after_edit i d place [] = refl
stays_after_edit i d place (e ∷ b) =
    ap (λ f. refusal_or place f (refusal_from (edited_by i d) (place + 1) b)) (fault_stays i d e) ∙ ap (refusal_or place (edit_fault i e)) (stays_after_edit i d (place + 1) b)

pub stays : (i : Input) (a b : List Edit) → refusal_of (edited i a) b ≡ refusal_of i b
stays i [] b = refl
stays i (e ∷ a) b = stays (edited_by i e) a b ∙ stays_after_edit i e 0 b

pub both_none : (place : ℕ) (f : Option EditFault) (later : Option EditRefusal) → f ≡ None → later ≡ None → refusal_or place f later ≡ None
both_none place None later h k = k
both_none place (Some f) later h k = cc

pub none_both : (place : ℕ) (f : Option EditFault) (later : Option EditRefusal) → refusal_or place f later ≡ None → (f ≡ None) × (later ≡ None)
none_both place None later h = (refl, h)
none_both place (Some f) later h = cc

pub elsewhere : (i : Input) (m n : ℕ) (b : List Edit) → refusal_from i m b ≡ None → refusal_from i n b ≡ None
elsewhere i m n [] h = refl
elsewhere i m n (e ∷ b) h =
    let two = none_both m (edit_fault i e) (refusal_from i (m + 1) b) h in
    both_none n (edit_fault i e) (refusal_from i (n + 1) b) two.0 (elsewhere i (m + 1) (n + 1) b two.1)

pub parts_accepted : (i : Input) (place : ℕ) (a b : List Edit) → refusal_from i place (a ++ b) ≡ None → (refusal_from i place a ≡ None) × (refusal_from i 0 b ≡ None)
parts_accepted i place [] b h = (refl, elsewhere i place 0 b h)
parts_accepted i place (e ∷ a) b h =
    let two = none_both place (edit_fault i e) (refusal_from i (place + 1) (a ++ b)) h in
    let rest = parts_accepted i (place + 1) a b two.1 in
    (both_none place (edit_fault i e) (refusal_from i (place + 1) a) two.0 rest.0, rest.1)

pub whole_accepted : (i : Input) (place : ℕ) (a b : List Edit) → refusal_from i place a ≡ None → refusal_from i 0 b ≡ None → refusal_from i place (a ++ b) ≡ None
whole_accepted i place [] b h k = elsewhere i 0 place b k
whole_accepted i place (e ∷ a) b h k =
    let two = none_both place (edit_fault i e) (refusal_from i (place + 1) a) h in
    both_none place (edit_fault i e) (refusal_from i (place + 1) (a ++ b)) two.0 (whole_accepted i (place + 1) a b two.1 k)

-- an edit of whose part there is a later one counts for nothing

later_or_here : (i : Input) (d e : Edit) (rest : List Edit) (b : Bool) → same_part d e ≡ b → (edited (edited_by i e) (d ∷ rest) ≡ edited (edited_by i e) rest) → edited i (d ∷ e ∷ rest) ≡ edited i (e ∷ rest)
later_or_here i d e rest true h k = ap (λ (j : Input). edited j rest) (last_wins i d e h)
later_or_here i d e rest false h k = ap (λ (j : Input). edited j rest) (commute i d e h) ∙ k

pub overwritten : (i : Input) (d : Edit) (later : List Edit) → Any (λ e. same_part d e ≡ true) later → edited i (d ∷ later) ≡ edited i later
overwritten i d [] (k, x, l, at, same) = absurd (omega arith)
overwritten i d (e ∷ rest) (zero, x, l, at, same) = ap (λ (j : Input). edited j rest) (last_wins i d e (ap (same_part d) at ∙ same))
overwritten i d (e ∷ rest) (suc k, x, l, at, same) = later_or_here i d e rest (same_part d e) refl (overwritten (edited_by i e) d rest (k, x, omega arith, at, same))

pub overwritten_in_batch : (i : Input) (before later : List Edit) (d : Edit) → Any (λ e. same_part d e ≡ true) later → edited i (before ++ d ∷ later) ≡ edited i (before ++ later)
overwritten_in_batch i before later d h = edited-append i before (d ∷ later) ∙ overwritten (edited i before) d later h ∙ sym (edited-append i before later)
