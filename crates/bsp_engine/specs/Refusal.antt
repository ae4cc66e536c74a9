-- What is said where a document is refused.
use Rattle.bsp_engine.specs.declared.errors.JobFault.{JobFault}
use Rattle.bsp_engine.specs.declared.errors.JobError.{JobError}
use Rattle.bsp_engine.specs.declared.errors.JobError.TheVariants.{Fault, OutOfMemory}

-- the fact holds of the document's fault; nothing is said where memory was refused
abbrev pub IfFault : JobError → (JobFault → Type 0) → Type 0
IfFault (Fault fault) P = P fault
IfFault OutOfMemory P = Unit {0}
