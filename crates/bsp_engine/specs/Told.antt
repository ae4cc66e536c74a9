-- Replies as blocks tell them (this profile).
use Rattle.std.specs.Prelude.{ℕ, Bool, List, [], ◌∷◌, Option, None, Some}
use Rattle.bsp_model.specs.declared.input.Input.{Input}
use Rattle.bsp_step.specs.ViewParts.{ViewParts}
use Rattle.bsp_step.specs.OutcomeParts.{OutcomeParts}
use Rattle.bsp_run.specs.Run.{Run, run}
use Rattle.bsp_incr.specs.declared.edit.Edit.{Edit}
use Rattle.bsp_incr.specs.declared.reply.Reply.{Reply}
use Rattle.bsp_incr.specs.declared.reply.Reply.TheVariants.{Done, Refused}
use Rattle.bsp_incr.specs.declared.reply.Update.{Update}
use Rattle.bsp_incr.specs.Replies.{input_after}
use Rattle.bsp_options.specs.declared.options.Detail.{Detail}
use Rattle.bsp_engine.specs.WhyLines.{more_lines}

-- a reply, and the lines on its update that are asked for beside its places
pub record ToldReply : Type 0 where
  pub reply : Reply
  pub more : List ℕ

-- a reply of which no more is told
abbrev pub alone : Reply → ToldReply
alone reply = record { reply = reply; more = [] }

abbrev pub more_if : Detail → (ViewParts → ℕ → Bool) → Option Run → Run → Option Update → List ℕ
more_if detail looks old new None = []
more_if detail looks old new (Some update) = more_lines detail looks old new update

-- Of a refusal, and of a run that was made afresh, there is no update to tell of.
abbrev pub more_of : Detail → (ViewParts → ℕ → Bool) → Option Run → Run → Reply → List ℕ
more_of detail looks old new (Done result update) = more_if detail looks old new update
more_of detail looks old new (Refused refusal) = []

-- the reply that gives the new run, against the previous run, if there was one
abbrev pub told_by : Detail → (ViewParts → ℕ → Bool) → Option Run → Run → Reply → ToldReply
told_by detail looks old new reply = record { reply = reply; more = more_of detail looks old new reply }

-- the replies to batches of edits of this input
abbrev pub told_after : Detail → (ViewParts → ℕ → Bool) → (ViewParts → OutcomeParts) → Input → List (List Edit) → List Reply → List ToldReply
told_after detail looks turn input batches [] = []
told_after detail looks turn input [] (reply ∷ replies) = alone reply ∷ told_after detail looks turn input [] replies
told_after detail looks turn input (batch ∷ later) (reply ∷ replies) =
    told_by detail looks (Some (run turn input)) (run turn (input_after input batch)) reply ∷ told_after detail looks turn (input_after input batch) later replies

-- the replies to an input and to batches: the opening's first
abbrev pub told_of : Detail → (ViewParts → ℕ → Bool) → (ViewParts → OutcomeParts) → Input → List (List Edit) → List Reply → List ToldReply
told_of detail looks turn input batches [] = []
told_of detail looks turn input batches (opening ∷ replies) = told_by detail looks None (run turn input) opening ∷ told_after detail looks turn input batches replies
