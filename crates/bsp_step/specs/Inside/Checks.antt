-- The checks that several acting calls share: private functions alone speak of them.
use Rattle.std.specs.Prelude.{◌≡◌, Option, Result, Ok, Err, None, Some, ℕ, nat_lt}
use Rattle.bsp_model.specs.declared.fault.Fault.{Fault as FaultKind}
use Rattle.bsp_model.specs.declared.fault.Fault.TheVariants.{BadPid}
use Rattle.bsp_step.specs.declared.stop.Stop.{Stop}
use Rattle.bsp_step.specs.declared.stop.Stop.TheVariants.{Fault, OutOfMemory}
use Rattle.bsp_step.specs.Context.{Context}
use Rattle.bsp_step.specs.Perform.{performed, request_fault, fault_unless, first_fault, target_area, area_fault}

-- A check passes, and nothing changes; or the fault is kept, that of an earlier call or else that of the check.
abbrev pub Passes : {T : Type 0} → Context → Option FaultKind → Context → Result T Stop → Type 0
Passes old refused new (Ok _) = (new ≡ old) × (old.fault ≡ None) × (refused ≡ None)
Passes old refused new (Err (Fault f)) = (new ≡ performed old.fault refused old old) × (new.fault ≡ Some f)
Passes old refused new (Err OutOfMemory) = ⊥

-- the checks of a request to words of an area of a process, up to this end
abbrev pub place_fault : Context → ℕ → ℕ → ℕ → Option FaultKind
place_fault c pid area end =
    first_fault (request_fault c) (first_fault (fault_unless (nat_lt pid c.view.nprocs) (BadPid pid)) (area_fault (target_area c.view pid area) area end))
