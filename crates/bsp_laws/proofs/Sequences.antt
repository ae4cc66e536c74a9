-- Batches, one after the other.
use Rattle.std.proofs.Common.{◌≡◌, ◌++◌, ◌∷◌, None, List, sym, ap, ◌∙◌}
use Rattle.bsp_model.specs.declared.input.Input.{Input}
use Rattle.bsp_incr.specs.declared.edit.Edit.{Edit}
use Rattle.bsp_incr.specs.Edits.{refusal_of, edited}
use Rattle.bsp_incr.specs.Replies.{input_if, input_after}
use Rattle.bsp_incr.proofs.Lawful.{same_lengths}
use Rattle.bsp_incr.proofs.EditSequences.{edited-append, stays, parts_accepted, whole_accepted, overwritten}
use Rattle.bsp_laws.specs.Batches.{IsSequence, LastWinsInBatch, LengthsStay}

pub sequence : (a b : List Edit) → IsSequence a b (a ++ b)
sequence a b =
    let parts : (i : Input) → refusal_of i (a ++ b) ≡ None → (refusal_of i a ≡ None) × (refusal_of (edited i a) b ≡ None) =
    λ i h. let two = parts_accepted i 0 a b h in (two.0, stays i a b ∙ two.1) in
    record {
      input = λ i. edited-append i a b;
      accepted = λ i. (parts i, λ two. whole_accepted i 0 a b two.0 (sym (stays i a b) ∙ two.1));
      after = λ i h.
          let two = parts i h in
          ap (λ r. input_if r i (edited i (a ++ b))) h ∙ edited-append i a b
          ∙ sym (ap (λ (j : Input). input_after j b) (ap (λ r. input_if r i (edited i a)) two.0) ∙ ap (λ r. input_if r (edited i a) (edited (edited i a) b)) two.1);
    }

pub overwritten_in_batch : LastWinsInBatch
overwritten_in_batch i before later d h = edited-append i before (d ∷ later) ∙ overwritten (edited i before) d later h ∙ sym (edited-append i before later)

pub lengths_stay : LengthsStay
lengths_stay = record { memories = λ i es. (same_lengths i es).0; arguments = λ i es. (same_lengths i es).1 }
