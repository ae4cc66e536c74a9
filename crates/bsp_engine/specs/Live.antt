-- What an open session answers to lines (this profile).
use Rattle.std.specs.Prelude.{◌≡◌, ℕ, ◌+◌, Bool, false, List, [], ◌∷◌, ◌++◌, length, codes, Option, None, Some, if◌then◌else◌}
use Rattle.bsp_model.specs.declared.input.Input.{Input}
use Rattle.bsp_model.specs.Input.{input_fault}
use Rattle.bsp_model.specs.declared.fault.End.{End}
use Rattle.bsp_step.specs.ViewParts.{ViewParts}
use Rattle.bsp_step.specs.OutcomeParts.{OutcomeParts}
use Rattle.bsp_step.specs.Act.{Act}
use Rattle.bsp_step.specs.Turn.{turn_of}
use Rattle.bsp_run.specs.declared.result.RunResult.{RunResult}
use Rattle.bsp_run.specs.Run.{Run, run}
use Rattle.bsp_run.specs.Result.{result_of}
use Rattle.bsp_incr.specs.declared.edit.Edit.{Edit}
use Rattle.bsp_incr.specs.declared.edit.EditRefusal.{EditRefusal}
use Rattle.bsp_incr.specs.declared.reply.Reply.{Reply}
use Rattle.bsp_incr.specs.Edits.{refusal_of}
use Rattle.bsp_incr.specs.Undo.{undo_of}
use Rattle.bsp_incr.specs.Replies.{input_after, IsReply}
use Rattle.bsp_engine.specs.declared.asked.Asked.{Asked}
use Rattle.bsp_engine.specs.declared.asked.Asked.TheVariants.{Batch, Undo, Nothing}
use Rattle.bsp_engine.specs.declared.asked.Unread.{Unread}
use Rattle.bsp_engine.specs.declared.asked.Unread.TheVariants.{NotToml, WrongType, BadWord, TooLong, NothingToUndo}
use Rattle.bsp_engine.specs.declared.jobs.Job.{Job}
use Rattle.bsp_options.specs.declared.options.Detail.{Detail}
use Rattle.bsp_engine.specs.Asked.{asked_of, asked_place, asks_for_text, is_document, is_help, is_view}
use Rattle.bsp_text.specs.DocumentText.{document_block}
use Rattle.bsp_engine.specs.Help.{help_block}
use Rattle.bsp_text.specs.Lines.{line}
use Rattle.bsp_engine.specs.Reported.{AreRepliesTo, told_to}
use Rattle.bsp_engine.specs.Shown.{turn_text, view_text}
use Rattle.bsp_engine.specs.Told.{ToldReply, told_by}
use Rattle.bsp_engine.specs.Blocks.{reply_lines, text_of}

-- What lasts of an open session: its program, its input, the batches that take the accepted ones back that still stand, the newest first, and what its
-- blocks tell.
pub record LiveParts (P : Type 0) : Type 0 where
  pub program : P
  pub input : Input
  pub undos : List (List Edit)
  pub detail : Detail

-- an answer to a line: the reply to a batch, or to one that is taken back; or none, and nothing has changed
pub data Answer : Type 0 where
  replied : ToldReply → Answer
  unanswered : Unread → Answer

-- how an open session replies, as its blocks tell it: to a job and its batches, and to a batch after them
pub record Replying (P : Type 0) : Type 0 where
  pub job : Detail → Job P → List ToldReply
  pub batch : LiveParts P → List Edit → ToldReply

-- a batch that is refused leaves nothing to take back
abbrev pub undos_after : {P : Type 0} → Option EditRefusal → LiveParts P → List Edit → List (List Edit)
undos_after (Some refusal) live batch = live.undos
undos_after None live batch = undo_of live.input batch ∷ live.undos

abbrev pub after_batch : {P : Type 0} → LiveParts P → List Edit → LiveParts P
after_batch live batch =
    record {
      program = live.program;
      input = input_after live.input batch;
      undos = undos_after (refusal_of live.input batch) live batch;
      detail = live.detail;
    }

-- the newest batch is taken back; taking it back is no batch itself
abbrev pub after_undo : {P : Type 0} → LiveParts P → List (List Edit) → LiveParts P
after_undo live [] = live
after_undo live (undo ∷ former) = record live { input = input_after live.input undo; undos = former }

abbrev pub after : {P : Type 0} → LiveParts P → Asked → LiveParts P
after live (Batch batch) = after_batch live batch
after live Undo = after_undo live live.undos
after live (Nothing unread) = live

-- after batches, one after the other
abbrev pub after_batches : {P : Type 0} → LiveParts P → List (List Edit) → LiveParts P
after_batches live [] = live
after_batches live (batch ∷ later) = after_batches (after_batch live batch) later

-- the session of a job, before its batches
abbrev pub opened : {P : Type 0} → Detail → P → Input → LiveParts P
opened detail program input = record { program = program; input = input; undos = []; detail = detail }

abbrev pub answer_to_undo : {P : Type 0} → Replying P → LiveParts P → List (List Edit) → Answer
answer_to_undo replying live [] = unanswered NothingToUndo
answer_to_undo replying live (undo ∷ former) = replied (replying.batch live undo)

abbrev pub answer_to : {P : Type 0} → Replying P → LiveParts P → Asked → Answer
answer_to replying live (Batch batch) = replied (replying.batch live batch)
answer_to replying live Undo = answer_to_undo replying live live.undos
answer_to replying live (Nothing unread) = unanswered unread

-- why a line was not read
abbrev pub unread_word : Unread → List ℕ
unread_word NotToml = codes "J1"
unread_word WrongType = codes "J3"
unread_word BadWord = codes "J7"
unread_word TooLong = codes "long"
unread_word NothingToUndo = codes "undo"

-- `unread WHY`
abbrev pub unread_line : Unread → List ℕ
unread_line unread = codes "unread " ++ line (unread_word unread) []

-- what follows the line `run K`
abbrev pub answer_lines : Bool → Option RunResult → Answer → List ℕ
answer_lines places before (replied told) = reply_lines places before told
answer_lines places before (unanswered unread) = unread_line unread

-- the block of answer K
abbrev pub answer_block : Bool → ℕ → Option RunResult → Answer → List ℕ
answer_block places k before answer = line (codes "run") (k ∷ []) ++ answer_lines places before answer

-- With changes, the result of the last block that has one: that of the input as it is. Without, none.
unfoldable pub last_result : {P : Type 0} → (P → ViewParts → List Act) → (P → ViewParts → End) → LiveParts P → Option RunResult
last_result acts ending live = if live.detail.changes then Some (result_of (run (turn_of (acts live.program) (ending live.program)) live.input)) else None

-- the run of the input as it is
abbrev pub run_of : {P : Type 0} → (P → ViewParts → List Act) → (P → ViewParts → End) → LiveParts P → Run
run_of acts ending live = run (turn_of (acts live.program) (ending live.program)) live.input

-- the text for which a line asks: the input as a document, the lines that there are, or a view or a turn of the run of the input; `own` is the text of the
-- keys that are the catalogue's own
abbrev pub asked_text : List ℕ → Input → Run → List ℕ → List ℕ
asked_text own input r l =
    if is_document l then document_block own input
    else (if is_help l then help_block
    else (if is_view l then view_text r (asked_place l)
    else turn_text r (asked_place l)))

-- The text due for lines: a block for each, of which the first has this number. A line that asks for a text is answered by it, has no number, and
-- changes nothing.
unfoldable pub blocks : {P : Type 0} → (P → ViewParts → List Act) → (P → ViewParts → End) → Replying P → List ℕ → ℕ → LiveParts P → List (List ℕ) → List ℕ
blocks acts ending replying own k live [] = []
blocks acts ending replying own k live (l ∷ later) =
    if asks_for_text l then asked_text own live.input (run_of acts ending live) l ++ blocks acts ending replying own k live later
    else answer_block live.detail.places k (last_result acts ending live) (answer_to replying live (asked_of l))
    ++ blocks acts ending replying own (k + 1) (after live (asked_of l)) later

-- The text with which a live session of a job begins: the report of the job, and a line `ready`.
unfoldable pub first_text : {P : Type 0} → Replying P → Detail → Job P → List ℕ
first_text replying detail job = text_of detail (replying.job detail job) ++ codes "ready\n"

-- What is due once these lines were heard: the first text, and then a block for each line. The job's input and its batches come first.
unfoldable pub due_of : {P : Type 0} → (P → ViewParts → List Act) → (P → ViewParts → End) → Replying P → Detail → List ℕ → Job P → List (List ℕ) → List ℕ
due_of acts ending replying detail own job lines =
    first_text replying detail job
    ++ blocks acts ending replying own (length job.batches + 1) (after_batches (opened detail job.program job.input) job.batches) lines

-- The blocks tell replies to a job that are those of a session.
pub record IsToldOfJob {P : Type 0} (acts : P → ViewParts → List Act) (ending : P → ViewParts → End) (looks : P → ViewParts → ℕ → Bool) (detail : Detail) (job : Job P) (told : List ToldReply) : Type 0 where
  pub replies : List Reply
  pub are : AreRepliesTo acts ending looks false job replies
  pub gives : told ≡ told_to acts ending looks detail job replies

-- A block tells a reply to a batch that is that of a session, with the lines on the update of the run so far.
pub record IsToldOfBatch (looks : ViewParts → ℕ → Bool) (turn : ViewParts → OutcomeParts) (detail : Detail) (input : Input) (batch : List Edit) (told : ToldReply) : Type 0 where
  pub reply : Reply
  pub is : IsReply looks turn input batch reply
  pub gives : told ≡ told_by detail looks (Some (run turn input)) (run turn (input_after input batch)) reply

-- The replies are those of a session, by the acts, the endings and the footprints of programs: to a job and its batches, and to each batch after them.
pub record AreLiveReplies {P : Type 0} (acts : P → ViewParts → List Act) (ending : P → ViewParts → End) (looks : P → ViewParts → ℕ → Bool) (replying : Replying P) : Type 0 where
  pub job : (detail : Detail) (job : Job P) → input_fault job.input ≡ None → IsToldOfJob acts ending looks detail job (replying.job detail job)
  pub batch : (live : LiveParts P) (batch : List Edit) → input_fault live.input ≡ None
      → IsToldOfBatch (looks live.program) (turn_of (acts live.program) (ending live.program)) live.detail live.input batch (replying.batch live batch)

-- the fact holds of such replies
abbrev pub WithReplies : {P : Type 0} → (P → ViewParts → List Act) → (P → ViewParts → End) → (P → ViewParts → ℕ → Bool) → (Replying P → Type 0) → Type 0
WithReplies acts ending looks fact = (replying : Replying _) × AreLiveReplies acts ending looks replying × fact replying
