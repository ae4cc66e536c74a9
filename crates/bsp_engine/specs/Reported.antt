-- What a tool answers to the bytes that it reads, in the words of a session (this profile).
use Rattle.std.specs.Prelude.{◌≡◌, ℕ, Bool, true, false, List, length, Option, Result, Ok, Err, nat_lt}
use Rattle.bsp_model.specs.declared.fault.End.{End}
use Rattle.bsp_step.specs.ViewParts.{ViewParts}
use Rattle.bsp_step.specs.Act.{Act}
use Rattle.bsp_step.specs.Turn.{turn_of}
use Rattle.bsp_incr.specs.declared.reply.Reply.{Reply}
use Rattle.bsp_incr.specs.Replies.{AreReplies, AreScratchReplies}
use Rattle.bsp_engine.specs.declared.errors.JobFault.{JobFault}
use Rattle.bsp_engine.specs.declared.errors.EngineError.{EngineError}
use Rattle.bsp_engine.specs.declared.errors.EngineError.TheVariants.{TooLong, Job as Refused}
use Rattle.bsp_engine.specs.declared.jobs.Job.{Job}
use Rattle.bsp_options.specs.declared.options.Detail.{Detail}
use Rattle.bsp_engine.specs.Answer.{Answers}
use Rattle.bsp_engine.specs.Catalogue.{Meaning}
use Rattle.bsp_engine.specs.JobOf.{job_of}
use Rattle.bsp_model.specs.Limits.{most_document_bytes}
use Rattle.bsp_engine.specs.Blocks.{text_of}
use Rattle.bsp_engine.specs.Told.{ToldReply, told_of}

-- The replies to a job are those of a session of its program, by the acts, the endings and the footprints of programs, or of runs made from scratch.
abbrev pub AreRepliesTo : {P : Type 0} → (P → ViewParts → List Act) → (P → ViewParts → End) → (P → ViewParts → ℕ → Bool) → Bool → Job P → List Reply → Type 0
AreRepliesTo acts ending looks true job = AreScratchReplies (looks job.program) (turn_of (acts job.program) (ending job.program)) job.input job.batches
AreRepliesTo acts ending looks false job = AreReplies (looks job.program) (turn_of (acts job.program) (ending job.program)) job.input job.batches

-- what the blocks tell of such replies: each with the lines on its update that are asked for
abbrev pub told_to : {P : Type 0} → (P → ViewParts → List Act) → (P → ViewParts → End) → (P → ViewParts → ℕ → Bool) → Detail → Job P → List Reply → List ToldReply
told_to acts ending looks detail job replies = told_of detail (looks job.program) (turn_of (acts job.program) (ending job.program)) job.input job.batches replies

-- the text of such replies
pub record IsTextFor {P : Type 0} (acts : P → ViewParts → List Act) (ending : P → ViewParts → End) (looks : P → ViewParts → ℕ → Bool) (scratch : Bool) (detail : Detail) (job : Job P) (text : List ℕ) : Type 0 where
  pub replies : List Reply
  pub are : AreRepliesTo acts ending looks scratch job replies
  pub is : text ≡ text_of detail (told_to acts ending looks detail job replies)

-- the report of a job, or why there is none
abbrev pub IsJobReport : {P : Type 0} → (P → ViewParts → List Act) → (P → ViewParts → End) → (P → ViewParts → ℕ → Bool) → Bool → Detail → Result (Job P) JobFault → Result (List ℕ) EngineError → Type 0
IsJobReport acts ending looks scratch detail (Ok job) (Ok text) = IsTextFor acts ending looks scratch detail job text
IsJobReport acts ending looks scratch detail (Ok job) (Err error) = ⊥
IsJobReport acts ending looks scratch detail (Err fault) report = report ≡ Err (Refused fault)

abbrev pub is_too_long : List ℕ → Bool
is_too_long bytes = nat_lt most_document_bytes (length bytes)

abbrev pub IsReportUnless : Bool → Result (List ℕ) EngineError → Type 0 → Type 0
IsReportUnless true report of_job = report ≡ Err TooLong
IsReportUnless false report of_job = of_job

-- The report of a document, with or without updates, its blocks in this detail, or why it has none: it is too long, or the first of J1 to J7.
-- The catalogue's meaning says which program it names, and the acts, the endings and the footprints of programs what that does.
abbrev pub IsReport : {P : Type 0} → Meaning P → (P → ViewParts → List Act) → (P → ViewParts → End) → (P → ViewParts → ℕ → Bool) → Bool → Detail → List ℕ → Result (List ℕ) EngineError → Type 0
IsReport meaning acts ending looks scratch detail bytes report =
    IsReportUnless (is_too_long bytes) report (IsJobReport acts ending looks scratch detail (job_of meaning bytes) report)

-- The document of these bytes is answered by its report.
pub record IsAnswered {P : Type 0} (meaning : Meaning P) (acts : P → ViewParts → List Act) (ending : P → ViewParts → End) (looks : P → ViewParts → ℕ → Bool) (scratch : Bool) (detail : Detail) (bytes : List ℕ) (old new : Option (List ℕ)) (answer : Result (Unit {0}) EngineError) : Type 0 where
  pub report : Result (List ℕ) EngineError
  pub is : IsReport meaning acts ending looks scratch detail bytes report
  pub answers : Answers report old new answer
