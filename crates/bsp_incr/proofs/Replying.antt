-- Replies by their law are those that are computed.
use Rattle.std.proofs.Common.{◌≡◌, ℕ, Bool, List, [], ◌∷◌, Option, None, Some, map, refl, sym, ap, ◌∙◌}
use Rattle.bsp_model.specs.declared.input.Input.{Input}
use Rattle.bsp_model.specs.Input.{input_fault}
use Rattle.bsp_step.specs.ViewParts.{ViewParts}
use Rattle.bsp_step.specs.OutcomeParts.{OutcomeParts}
use Rattle.bsp_run.specs.Run.{Run, run}
use Rattle.bsp_run.specs.Law.{IsBspRun}
use Rattle.bsp_run.specs.Result.{result_of}
use Rattle.bsp_run.proofs.OneRun.{one_run}
use Rattle.bsp_incr.specs.declared.edit.Edit.{Edit}
use Rattle.bsp_incr.specs.declared.edit.EditRefusal.{EditRefusal}
use Rattle.bsp_incr.specs.declared.reply.Update.{Update}
use Rattle.bsp_incr.specs.declared.reply.Reply.{Reply}
use Rattle.bsp_incr.specs.declared.reply.Reply.TheVariants.{Done}
use Rattle.bsp_incr.specs.Edits.{refusal_of, edited}
use Rattle.bsp_incr.specs.Exact.{IsExact}
use Rattle.bsp_incr.specs.Replies.{input_if, input_after, IsDone, IsUpdated, IsReplyIf, IsReply, AreRepliesFrom, AreReplies, without_update, AreScratchReplies}
use Rattle.bsp_incr.specs.Inside.Changes.{update_of}
use Rattle.bsp_incr.specs.Inside.Replies.{done, reply_if, reply_to, replies_from, replies}
use Rattle.bsp_incr.proofs.Exactness.{update_is_exact, update_of_exact}
use Rattle.bsp_incr.proofs.Lawful.{edited_lawful}

done_is : (looks : ViewParts → ℕ → Bool) (old : Option Run) (r : Run) (u : Update) → IsExact looks old r u → Done (result_of r) (Some u) ≡ done looks old r
done_is looks old r u exact = ap (λ (v : Update). Done (result_of r) (Some v)) (update_of_exact looks old r u exact)

-- the reply to an accepted batch
pub replied_is : (looks : ViewParts → ℕ → Bool) (turn : ViewParts → OutcomeParts) (input : Input) (batch : List Edit) (old new : Run) (u : Update) → input_fault input ≡ None → refusal_of input batch ≡ None
    → IsBspRun turn input old → IsBspRun turn (edited input batch) new → IsExact looks (Some old) new u → Done (result_of new) (Some u) ≡ reply_to looks turn input batch
replied_is looks turn input batch old new u lawful none before after exact =
    let was : old ≡ run turn input = (one_run turn input old lawful).0 before in
    let is : new ≡ run turn (edited input batch) = (one_run turn (edited input batch) new (edited_lawful input batch none lawful)).0 after in
    let reply : Reply = done looks (Some (run turn input)) (run turn (edited input batch)) in
    done_is looks (Some old) new u exact ∙ (λ i. done looks (Some (was i)) (is i)) ∙ ap (λ (o : Option EditRefusal). reply_if o reply) (sym none)

-- The replies that are computed keep the law.

law_of_done : (looks : ViewParts → ℕ → Bool) (turn : ViewParts → OutcomeParts) (old : Option Run) (input : Input) → input_fault input ≡ None → IsDone looks turn old input (done looks old (run turn input))
law_of_done looks turn old input lawful =
    record {
      run = run turn input;
      law = (one_run turn input (run turn input) lawful).1 refl;
      update = update_of looks old (run turn input);
      exact = update_is_exact looks old (run turn input) (update_of looks old (run turn input)) refl;
      gives = refl;
    }

law_of_update : (looks : ViewParts → ℕ → Bool) (turn : ViewParts → OutcomeParts) (input : Input) (batch : List Edit) → input_fault input ≡ None → refusal_of input batch ≡ None
    → IsUpdated looks turn input (edited input batch) (done looks (Some (run turn input)) (run turn (edited input batch)))
law_of_update looks turn input batch lawful none =
    record {
      run_before = run turn input;
      law_before = (one_run turn input (run turn input) lawful).1 refl;
      done = law_of_done looks turn (Some (run turn input)) (edited input batch) (edited_lawful input batch none lawful);
    }

law_if : (o : Option EditRefusal) (reply : Reply) (accepted : Reply → Type 0) → (o ≡ None → accepted reply) → IsReplyIf o (reply_if o reply) (accepted (reply_if o reply))
law_if None reply accepted h = h refl
law_if (Some refusal) reply accepted h = refl

lawful_if : (o : Option EditRefusal) (old new : Input) → input_fault old ≡ None → (o ≡ None → input_fault new ≡ None) → input_fault (input_if o old new) ≡ None
lawful_if None old new h k = k refl
lawful_if (Some refusal) old new h k = h

-- the input after a batch is lawful
pub lawful_after : (input : Input) (batch : List Edit) → input_fault input ≡ None → input_fault (input_after input batch) ≡ None
lawful_after input batch lawful = lawful_if (refusal_of input batch) input (edited input batch) lawful (λ none. edited_lawful input batch none lawful)

-- the reply to a batch
pub law_of_reply : (looks : ViewParts → ℕ → Bool) (turn : ViewParts → OutcomeParts) (input : Input) (batch : List Edit) → input_fault input ≡ None → IsReply looks turn input batch (reply_to looks turn input batch)
law_of_reply looks turn input batch lawful =
    law_if (refusal_of input batch) (done looks (Some (run turn input)) (run turn (edited input batch))) (IsUpdated looks turn input (edited input batch)) (law_of_update looks turn input batch lawful)

law_from : (looks : ViewParts → ℕ → Bool) (turn : ViewParts → OutcomeParts) (input : Input) (batches : List (List Edit)) → input_fault input ≡ None → AreRepliesFrom looks turn input batches (replies_from looks turn input batches)
law_from looks turn input [] lawful = refl
law_from looks turn input (batch ∷ later) lawful = (
  law_of_reply looks turn input batch lawful,
  law_from looks turn (input_after input batch) later (lawful_after input batch lawful),
)

pub law_of_replies : (looks : ViewParts → ℕ → Bool) (turn : ViewParts → OutcomeParts) (input : Input) (batches : List (List Edit)) → input_fault input ≡ None → AreReplies looks turn input batches (replies looks turn input batches)
law_of_replies looks turn input batches lawful = (law_of_done looks turn None input lawful, law_from looks turn input batches lawful)

-- Replies that keep the law are those that are computed.

done_fixed : (looks : ViewParts → ℕ → Bool) (turn : ViewParts → OutcomeParts) (old : Option Run) (input : Input) (reply : Reply) → input_fault input ≡ None → IsDone looks turn old input reply → reply ≡ done looks old (run turn input)
done_fixed looks turn old input reply lawful is =
    is.gives ∙ done_is looks old is.run is.update is.exact ∙ ap (done looks old) ((one_run turn input is.run lawful).0 is.law)

updated_fixed : (looks : ViewParts → ℕ → Bool) (turn : ViewParts → OutcomeParts) (before after : Input) (reply : Reply) → input_fault before ≡ None → input_fault after ≡ None → IsUpdated looks turn before after reply
    → reply ≡ done looks (Some (run turn before)) (run turn after)
updated_fixed looks turn before after reply lawful_before lawful_after is =
    done_fixed looks turn (Some is.run_before) after reply lawful_after is.done
    ∙ ap (λ (r : Run). done looks (Some r) (run turn after)) ((one_run turn before is.run_before lawful_before).0 is.law_before)

fixed_if : (o : Option EditRefusal) (reply made : Reply) (accepted : Type 0) → (o ≡ None → accepted → reply ≡ made) → IsReplyIf o reply accepted → reply ≡ reply_if o made
fixed_if None reply made accepted h is = h refl is
fixed_if (Some refusal) reply made accepted h is = is

reply_fixed : (looks : ViewParts → ℕ → Bool) (turn : ViewParts → OutcomeParts) (input : Input) (batch : List Edit) (reply : Reply) → input_fault input ≡ None → IsReply looks turn input batch reply → reply ≡ reply_to looks turn input batch
reply_fixed looks turn input batch reply lawful is =
    fixed_if (refusal_of input batch) reply (done looks (Some (run turn input)) (run turn (edited input batch))) (IsUpdated looks turn input (edited input batch) reply)
    (λ none. updated_fixed looks turn input (edited input batch) reply lawful (edited_lawful input batch none lawful)) is

from_fixed : (looks : ViewParts → ℕ → Bool) (turn : ViewParts → OutcomeParts) (input : Input) (batches : List (List Edit)) (all : List Reply) → input_fault input ≡ None → AreRepliesFrom looks turn input batches all → all ≡ replies_from looks turn input batches
from_fixed looks turn input [] all lawful are = are
from_fixed looks turn input (batch ∷ later) [] lawful are = absurd are
from_fixed looks turn input (batch ∷ later) (reply ∷ others) lawful are =
    let first = reply_fixed looks turn input batch reply lawful are.0 in
    let rest = from_fixed looks turn (input_after input batch) later others (lawful_after input batch lawful) are.1 in
    (λ i. first i ∷ rest i)

pub replies_fixed : (looks : ViewParts → ℕ → Bool) (turn : ViewParts → OutcomeParts) (input : Input) (batches : List (List Edit)) (all : List Reply) → input_fault input ≡ None → AreReplies looks turn input batches all → all ≡ replies looks turn input batches
replies_fixed looks turn input batches [] lawful are = absurd are
replies_fixed looks turn input batches (opening ∷ others) lawful are =
    let first = done_fixed looks turn None input opening lawful are.0 in
    let rest = from_fixed looks turn input batches others lawful are.1 in
    (λ i. first i ∷ rest i)

pub scratch_replies_fixed : (looks : ViewParts → ℕ → Bool) (turn : ViewParts → OutcomeParts) (input : Input) (batches : List (List Edit)) (all : List Reply) → input_fault input ≡ None → AreScratchReplies looks turn input batches all → all ≡ map without_update (replies looks turn input batches)
scratch_replies_fixed looks turn input batches all lawful are =
    are.without ∙ ap (map without_update) (replies_fixed looks turn input batches are.whole lawful are.are)
