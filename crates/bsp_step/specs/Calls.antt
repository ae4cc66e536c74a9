-- What an acting call promises, and what a part of a step promises that is written with `?`.
use Rattle.std.specs.Prelude.{◌≡◌, ℕ, IfOk, List, Option, Result, Ok, Err, None, Some, alloc_error}
use Rattle.std.specs.declared.alloc.AllocError.{AllocError}
use Rattle.bsp_model.specs.declared.fault.End.{End}
use Rattle.bsp_model.specs.declared.fault.End.TheVariants.{Halt}
use Rattle.bsp_step.specs.declared.stop.Stop.{Stop}
use Rattle.bsp_step.specs.declared.stop.Stop.TheVariants.{Fault, OutOfMemory}
use Rattle.bsp_step.specs.Context.{Context}
use Rattle.bsp_step.specs.Act.{Act}
use Rattle.bsp_step.specs.Perform.{perform, perform_all, refusal, done}

-- The act is performed and this fault is kept; or memory is wanted, no check fails, and nothing changes.
abbrev pub Stops : Context → Act → Context → Stop → Type 0
Stops old act new (Fault f) = (new ≡ perform old act) × (new.fault ≡ Some f)
Stops old act new OutOfMemory = (new ≡ old) × (old.fault ≡ None) × (refusal old act ≡ None)

-- The act is performed: it is done, and no fault is kept; or the answer is the fault that is kept; or memory is wanted.
abbrev pub Performs : {T : Type 0} → Context → Act → Context → Result T Stop → Type 0
Performs old act new (Ok _) = (new ≡ perform old act) × (new.fault ≡ None) × (new ≡ done old act)
Performs old act new (Err e) = Stops old act new e

-- The same of a call that takes no memory.
abbrev pub StopsByFault : Context → Act → Context → Stop → Type 0
StopsByFault old act new (Fault f) = (new ≡ perform old act) × (new.fault ≡ Some f)
StopsByFault old act new OutOfMemory = ⊥

abbrev pub PerformsAlways : {T : Type 0} → Context → Act → Context → Result T Stop → Type 0
PerformsAlways old act new (Ok _) = (new ≡ perform old act) × (new.fault ≡ None) × (new ≡ done old act)
PerformsAlways old act new (Err e) = StopsByFault old act new e

-- The acts are performed in order, up to the fault that is kept; or memory is wanted.
abbrev pub RunStops : Context → List Act → Context → Stop → Type 0
RunStops old acts new (Fault f) = (new ≡ perform_all old acts) × (new.fault ≡ Some f)
RunStops old acts new OutOfMemory = Unit {0}

-- The acts are performed in order, and the answer is this one, or the fault that is kept; or memory is wanted.
abbrev pub Runs : {T : Type 0} → Context → List Act → T → Context → Result T Stop → Type 0
Runs old acts answer new (Ok given) = (new ≡ perform_all old acts) × (given ≡ answer)
Runs old acts answer new (Err e) = RunStops old acts new e

-- One call performs the acts in order, up to the fault that is kept; or memory is wanted, and nothing changes.
abbrev pub PerformsAll : {T : Type 0} → Context → List Act → Context → Result T Stop → Type 0
PerformsAll old acts new (Ok _) = (new ≡ perform_all old acts) × (new.fault ≡ None)
PerformsAll old acts new (Err (Fault f)) = (new ≡ perform_all old acts) × (new.fault ≡ Some f)
PerformsAll old acts new (Err OutOfMemory) = (new ≡ old) × (old.fault ≡ None)

-- The act with these words is performed, and they were there; or they were not, and nothing changes.
abbrev pub PutsWords : Context → Option (List ℕ) → (List ℕ → Act) → Context → Result (Option (Unit {0})) Stop → Type 0
PutsWords old None act new result = (new ≡ old) × (result ≡ Ok None)
PutsWords old (Some words) act new result = Performs old (act words) new result × IfOk result (λ answer. answer ≡ Some tt)

-- What becomes of the answer of a step that is written with `?`.
abbrev pub settled : Result End Stop → Result End AllocError
settled (Ok how) = Ok how
settled (Err (Fault f)) = Ok Halt
settled (Err OutOfMemory) = Err alloc_error
