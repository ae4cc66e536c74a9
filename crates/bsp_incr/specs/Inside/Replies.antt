-- The replies of a session as functions of its input and its batches.
use Rattle.std.specs.Prelude.{ℕ, Bool, List, [], ◌∷◌, Option, None, Some}
use Rattle.bsp_model.specs.declared.input.Input.{Input}
use Rattle.bsp_step.specs.ViewParts.{ViewParts}
use Rattle.bsp_step.specs.OutcomeParts.{OutcomeParts}
use Rattle.bsp_run.specs.Run.{Run, run}
use Rattle.bsp_run.specs.Result.{result_of}
use Rattle.bsp_incr.specs.declared.edit.Edit.{Edit}
use Rattle.bsp_incr.specs.declared.edit.EditRefusal.{EditRefusal}
use Rattle.bsp_incr.specs.declared.reply.Reply.{Reply}
use Rattle.bsp_incr.specs.declared.reply.Reply.TheVariants.{Done, Refused}
use Rattle.bsp_incr.specs.Edits.{refusal_of, edited}
use Rattle.bsp_incr.specs.Replies.{input_after}
use Rattle.bsp_incr.specs.Inside.Changes.{update_of}

-- The reply that gives this run, against the previous run.
abbrev pub done : (ViewParts → ℕ → Bool) → Option Run → Run → Reply
done looks old new = Done (result_of new) (Some (update_of looks old new))

abbrev pub reply_if : Option EditRefusal → Reply → Reply
reply_if (Some refusal) reply = Refused refusal
reply_if None reply = reply

abbrev pub reply_to : (ViewParts → ℕ → Bool) → (ViewParts → OutcomeParts) → Input → List Edit → Reply
reply_to looks turn input batch =
    reply_if (refusal_of input batch) (done looks (Some (run turn input)) (run turn (edited input batch)))

-- The replies to batches, one after the other.
abbrev pub replies_from : (ViewParts → ℕ → Bool) → (ViewParts → OutcomeParts) → Input → List (List Edit) → List Reply
replies_from looks turn input [] = []
replies_from looks turn input (batch ∷ later) = reply_to looks turn input batch ∷ replies_from looks turn (input_after input batch) later

-- The opening first, then one reply for each batch.
abbrev pub replies : (ViewParts → ℕ → Bool) → (ViewParts → OutcomeParts) → Input → List (List Edit) → List Reply
replies looks turn input batches = done looks None (run turn input) ∷ replies_from looks turn input batches
