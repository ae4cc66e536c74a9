-- What a live session of a document says and answers (this profile).
use Rattle.std.specs.Prelude.{◌≡◌, ◌⊎◌, ℕ, Bool, List, Option, Result, Ok, Err, if◌then◌else◌}
use Rattle.bsp_model.specs.declared.fault.End.{End}
use Rattle.bsp_step.specs.ViewParts.{ViewParts}
use Rattle.bsp_step.specs.Act.{Act}
use Rattle.bsp_engine.specs.declared.errors.JobFault.{JobFault}
use Rattle.bsp_engine.specs.declared.errors.EngineError.{EngineError}
use Rattle.bsp_engine.specs.declared.errors.EngineError.TheVariants.{TooLong, Job as Refused}
use Rattle.bsp_engine.specs.declared.jobs.Job.{Job}
use Rattle.bsp_options.specs.declared.options.Detail.{Detail}
use Rattle.bsp_engine.specs.Answer.{IsFailure}
use Rattle.bsp_engine.specs.Catalogue.{Meaning}
use Rattle.bsp_engine.specs.Document.{WithOwnText}
use Rattle.bsp_engine.specs.JobOf.{job_of}
use Rattle.bsp_engine.specs.Live.{WithReplies, due_of}
use Rattle.bsp_engine.specs.Reported.{is_too_long}
use Rattle.bsp_engine.specs.Talk.{Event, TalksUntil}

abbrev pub or_refused : {P : Type 0} → Result (Job P) JobFault → Result (Job P) EngineError
or_refused (Ok job) = Ok job
or_refused (Err fault) = Err (Refused fault)

-- the job of a document, or why it has none: it is too long, or the first of J1 to J7
abbrev pub admitted : {P : Type 0} → Meaning P → List ℕ → Result (Job P) EngineError
admitted meaning bytes = if is_too_long bytes then Err TooLong else or_refused (job_of meaning bytes)

-- The answer to a document of this job, or of none for this reason. The job's session is talked through or breaks off; the replies of which it tells are
-- those of a session. A document that has no job is answered why. Either may be answered by a failure instead, and in both cases nothing is said.
abbrev pub FollowsIf : {P : Type 0} → (P → ViewParts → List Act) → (P → ViewParts → End) → (P → ViewParts → ℕ → Bool) → Detail → List ℕ → Result (Job P) EngineError → Option (List Event) → Option (List Event) → Type 0 → Result (Unit {0}) EngineError → Type 0
FollowsIf acts ending looks detail bytes (Ok job) old new silent answer =
    (IsFailure answer × silent)
    ⊎ WithOwnText bytes (λ own. WithReplies acts ending looks (λ replying. TalksUntil (due_of acts ending replying detail own job) old new answer))
FollowsIf acts ending looks detail bytes (Err error) old new silent answer = ((answer ≡ Err error) ⊎ IsFailure answer) × silent

-- The document of these bytes is followed; `old` and `new` are the logs of the terminal, and `silent` says that nothing happened there.
abbrev pub Follows : {P : Type 0} → Meaning P → (P → ViewParts → List Act) → (P → ViewParts → End) → (P → ViewParts → ℕ → Bool) → Detail → List ℕ → Option (List Event) → Option (List Event) → Type 0 → Result (Unit {0}) EngineError → Type 0
Follows meaning acts ending looks detail bytes old new silent answer = FollowsIf acts ending looks detail bytes (admitted meaning bytes) old new silent answer
