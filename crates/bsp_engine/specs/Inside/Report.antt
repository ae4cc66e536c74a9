-- What the engine writes for the bytes that it reads, as a function of them.
use Rattle.std.specs.Prelude.{ℕ, Bool, List, Result, Ok, Err, if◌then◌else◌}
use Rattle.bsp_model.specs.declared.fault.End.{End}
use Rattle.bsp_step.specs.ViewParts.{ViewParts}
use Rattle.bsp_step.specs.Act.{Act}
use Rattle.bsp_engine.specs.declared.errors.JobFault.{JobFault}
use Rattle.bsp_engine.specs.declared.errors.EngineError.{EngineError}
use Rattle.bsp_engine.specs.declared.errors.EngineError.TheVariants.{TooLong, Job as Refused}
use Rattle.bsp_engine.specs.declared.jobs.Job.{Job}
use Rattle.bsp_options.specs.declared.options.Detail.{Detail}
use Rattle.bsp_engine.specs.Catalogue.{Meaning}
use Rattle.bsp_engine.specs.JobOf.{job_of}
use Rattle.bsp_engine.specs.Reported.{is_too_long}
use Rattle.bsp_engine.specs.Inside.Replies.{job_told}
use Rattle.bsp_engine.specs.Blocks.{text_of}

-- the text of the replies to a job
abbrev pub job_report : {P : Type 0} → (P → ViewParts → List Act) → (P → ViewParts → End) → (P → ViewParts → ℕ → Bool) → Bool → Detail → Result (Job P) JobFault → Result (List ℕ) EngineError
job_report acts ending looks scratch detail (Ok job) = Ok (text_of detail (job_told acts ending looks scratch detail job))
job_report acts ending looks scratch detail (Err fault) = Err (Refused fault)

-- The report of a document, with or without updates, its blocks in this detail, or why it has none: it is too long, or the first of J1 to J7. The catalogue's
-- meaning says which program it names, and the acts, the endings and the footprints of programs what that does.
abbrev pub report_of : {P : Type 0} → Meaning P → (P → ViewParts → List Act) → (P → ViewParts → End) → (P → ViewParts → ℕ → Bool) → Bool → Detail → List ℕ → Result (List ℕ) EngineError
report_of meaning acts ending looks scratch detail bytes =
    if is_too_long bytes then Err TooLong else job_report acts ending looks scratch detail (job_of meaning bytes)
