-- The errors of private functions.
use Rattle.bsp_engine.specs.declared.errors.JobError.{JobError}
use Rattle.bsp_engine.specs.declared.errors.JobError.TheVariants.{Fault, OutOfMemory}
use Rattle.bsp_engine.specs.declared.errors.EngineError.{EngineError}
use Rattle.bsp_engine.specs.declared.errors.EngineError.TheVariants.{Read, TooLong, Job, Write, OutOfMemory as NoMemory}

-- how the engine answers these errors
abbrev pub job_error_of : JobError → EngineError
job_error_of (Fault fault) = Job fault
job_error_of OutOfMemory = NoMemory

-- the error says why a document was not read
abbrev pub IsUnread : EngineError → Type 0
IsUnread Read = Unit {0}
IsUnread TooLong = Unit {0}
IsUnread NoMemory = Unit {0}
IsUnread (Job fault) = ⊥
IsUnread Write = ⊥
