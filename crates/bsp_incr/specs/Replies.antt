-- What a session holds, and its replies to batches of edits (this profile).
use Rattle.std.specs.Prelude.{◌≡◌, ℕ, Bool, List, [], ◌∷◌, map, Option, None, Some, Result, IfOk}
use Rattle.std.specs.Borrow.{Bor}
use Rattle.std.specs.Fn.{Shared}
use Rattle.std.specs.declared.alloc.AllocError.{AllocError}
use Rattle.bsp_model.specs.declared.input.Input.{Input}
use Rattle.bsp_model.specs.Input.{input_fault}
use Rattle.bsp_step.specs.ViewParts.{ViewParts}
use Rattle.bsp_step.specs.OutcomeParts.{OutcomeParts}
use Rattle.bsp_run.specs.Run.{Run, run}
use Rattle.bsp_run.specs.declared.result.RunResult.{RunResult}
use Rattle.bsp_run.specs.Law.{IsBspRun}
use Rattle.bsp_run.specs.Result.{result_of}
use Rattle.bsp_incr.specs.declared.edit.Edit.{Edit}
use Rattle.bsp_incr.specs.declared.edit.EditRefusal.{EditRefusal}
use Rattle.bsp_incr.specs.declared.reply.Update.{Update}
use Rattle.bsp_incr.specs.declared.reply.Reply.{Reply}
use Rattle.bsp_incr.specs.declared.reply.Reply.TheVariants.{Done, Refused}
use Rattle.bsp_incr.specs.declared.edit.error.EditError.{EditError}
use Rattle.bsp_incr.specs.declared.edit.error.EditError.TheVariants as error
use Rattle.bsp_incr.specs.Edits.{refusal_of, edited}
use Rattle.bsp_incr.specs.Exact.{IsExact}

-- What a session holds: a program, an input, and a run.
pub record SessionParts (P : Type 0) : Type 0 where
  pub program : P
  pub input : Input
  pub history : Run

-- the input is lawful, and the run is that of the program on it
pub record IsSession (turn : ViewParts → OutcomeParts) (input : Input) (history : Run) : Type 0 where
  pub lawful : input_fault input ≡ None
  pub law : IsBspRun turn input history

-- the refusal, if that is the error; want of memory comes only where there is none
abbrev pub refusal_in : EditError → Option EditRefusal
refusal_in (error.Refused refusal) = Some refusal
refusal_in error.OutOfMemory = None

abbrev pub input_if : Option EditRefusal → Input → Input → Input
input_if (Some refusal) old new = old
input_if None old new = new

-- the input after a batch, which counts for nothing where it is refused
abbrev pub input_after : Input → List Edit → Input
input_after input batch = input_if (refusal_of input batch) input (edited input batch)

-- The reply gives the run of this input, and what had to be done for it against the previous run, if there was one.
pub record IsDone (looks : ViewParts → ℕ → Bool) (turn : ViewParts → OutcomeParts) (old : Option Run) (input : Input) (reply : Reply) : Type 0 where
  pub run : Run
  pub law : IsBspRun turn input run
  pub update : Update
  pub exact : IsExact looks old run update
  pub gives : reply ≡ Done (result_of run) (Some update)

-- The reply gives the run of the input after an accepted batch, against the run of the input before it.
pub record IsUpdated (looks : ViewParts → ℕ → Bool) (turn : ViewParts → OutcomeParts) (before after : Input) (reply : Reply) : Type 0 where
  pub run_before : Run
  pub law_before : IsBspRun turn before run_before
  pub done : IsDone looks turn (Some run_before) after reply

abbrev pub IsReplyIf : Option EditRefusal → Reply → Type 0 → Type 0
IsReplyIf (Some refusal) reply accepted = reply ≡ Refused refusal
IsReplyIf None reply accepted = accepted

-- The reply to a batch: its refusal, or the run of the edited input.
abbrev pub IsReply : (ViewParts → ℕ → Bool) → (ViewParts → OutcomeParts) → Input → List Edit → Reply → Type 0
IsReply looks turn input batch reply = IsReplyIf (refusal_of input batch) reply (IsUpdated looks turn input (edited input batch) reply)

-- The replies to batches, one for each, in order.
abbrev pub AreRepliesFrom : (ViewParts → ℕ → Bool) → (ViewParts → OutcomeParts) → Input → List (List Edit) → List Reply → Type 0
AreRepliesFrom looks turn input [] replies = replies ≡ []
AreRepliesFrom looks turn input (batch ∷ batches) [] = ⊥
AreRepliesFrom looks turn input (batch ∷ batches) (reply ∷ replies) = IsReply looks turn input batch reply × AreRepliesFrom looks turn (input_after input batch) batches replies

-- The replies of a session: the opening's first, for which all had to be done, then one for each batch.
abbrev pub AreReplies : (ViewParts → ℕ → Bool) → (ViewParts → OutcomeParts) → Input → List (List Edit) → List Reply → Type 0
AreReplies looks turn input batches [] = ⊥
AreReplies looks turn input batches (opening ∷ replies) = IsDone looks turn None input opening × AreRepliesFrom looks turn input batches replies

-- the reply as a run made afresh gives it
abbrev pub without_update : Reply → Reply
without_update (Done result update) = Done result None
without_update (Refused refusal) = Refused refusal

-- The replies where each input is run afresh: those of a session, without their updates.
pub record AreScratchReplies (looks : ViewParts → ℕ → Bool) (turn : ViewParts → OutcomeParts) (input : Input) (batches : List (List Edit)) (replies : List Reply) : Type 0 where
  pub whole : List Reply
  pub are : AreReplies looks turn input batches whole
  pub without : replies ≡ map without_update whole

-- A call that answers what the run of any lawful input gives.
pub record MakesRuns {F : Type 0} (calls : Shared F (Bor Input × Unit {0}) (Result RunResult AllocError)) (f : F) (turn : ViewParts → OutcomeParts) : Type 0 where
  pub takes : (input : Bor Input) → input_fault input.now ≡ None → calls.pre f (input, tt)
  pub gives : (input : Bor Input) (r : Result RunResult AllocError) → input_fault input.now ≡ None → calls.post f (input, tt) r
      → IfOk r (λ given. given ≡ result_of (run turn input.now))
