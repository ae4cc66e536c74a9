-- The fault lines and exit statuses of the program (this profile).
use Rattle.std.specs.Prelude.{ℕ, List, ◌++◌, codes}
use Rattle.bsp_model.specs.declared.fault.InputFault.{InputFault}
use Rattle.bsp_model.specs.declared.fault.InputFault.TheVariants.{NoProcess, TooMany, LengthsDiffer, MemoryTooLong, ArgsTooLong, BadLimit, BadPrice}
use Rattle.bsp_engine.specs.declared.errors.JobFault.{JobFault}
use Rattle.bsp_engine.specs.declared.errors.JobFault.TheVariants.{NotToml, MissingKey, WrongType, UnknownKey, UnknownProgram, Input, BadWord}
use Rattle.bsp_engine.specs.declared.errors.EngineError.{EngineError}
use Rattle.bsp_engine.specs.declared.errors.EngineError.TheVariants.{Read, TooLong, Job, Write, OutOfMemory}

-- the seven reasons to refuse an input, by number
abbrev pub input_fault_word : InputFault → List ℕ
input_fault_word NoProcess = codes "I1"
input_fault_word TooMany = codes "I2"
input_fault_word LengthsDiffer = codes "I3"
input_fault_word MemoryTooLong = codes "I4"
input_fault_word ArgsTooLong = codes "I5"
input_fault_word BadLimit = codes "I6"
input_fault_word BadPrice = codes "I7"

-- the seven faults of a document, by number
abbrev pub job_fault_word : JobFault → List ℕ
job_fault_word NotToml = codes "J1"
job_fault_word MissingKey = codes "J2"
job_fault_word WrongType = codes "J3"
job_fault_word UnknownKey = codes "J4"
job_fault_word UnknownProgram = codes "J5"
job_fault_word (Input fault) = codes "J6 " ++ input_fault_word fault
job_fault_word BadWord = codes "J7"

-- the line that the program writes to standard error, without its LF
abbrev pub fault_line : EngineError → List ℕ
fault_line Read = codes "fault read"
fault_line TooLong = codes "fault long"
fault_line (Job fault) = codes "fault " ++ job_fault_word fault
fault_line Write = codes "fault write"
fault_line OutOfMemory = codes "fault memory"

-- the status with which the program ends
abbrev pub exit_status : EngineError → ℕ
exit_status Read = 1
exit_status TooLong = 3
exit_status (Job fault) = 3
exit_status Write = 1
exit_status OutOfMemory = 1
