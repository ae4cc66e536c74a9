-- The faults of a process, as a report tells them (this profile).
use Rattle.std.specs.Prelude.{ℕ, List, [], ◌∷◌, codes}
use Rattle.bsp_model.specs.declared.fault.Fault.{Fault}
use Rattle.bsp_model.specs.declared.fault.Fault.TheVariants.{Abort, BadPid, NotRegistered, OutOfArea, BadLocal, TagLength, EmptyQueue, TooManyRequests, WorkLimit, LineLimit, TooLong, BadTagSize}

-- the faults of a process, by number
abbrev pub fault_word : Fault → List ℕ
fault_word (Abort code) = codes "F1"
fault_word (BadPid pid) = codes "F2"
fault_word (NotRegistered start) = codes "F3"
fault_word OutOfArea = codes "F4"
fault_word BadLocal = codes "F5"
fault_word TagLength = codes "F6"
fault_word EmptyQueue = codes "F7"
fault_word TooManyRequests = codes "F8"
fault_word WorkLimit = codes "F9"
fault_word LineLimit = codes "F10"
fault_word TooLong = codes "F11"
fault_word BadTagSize = codes "F12"

-- the number that belongs to a fault: a code, a process or an address
abbrev pub fault_numbers : Fault → List ℕ
fault_numbers (Abort code) = code ∷ []
fault_numbers (BadPid pid) = pid ∷ []
fault_numbers (NotRegistered start) = start ∷ []
fault_numbers _ = []
