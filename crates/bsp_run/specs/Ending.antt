-- How a superstep ends.
use Rattle.std.specs.Prelude.{ℕ, ◌+◌, List, [], ◌∷◌, ◌++◌, Option, None, Some, is_some, if◌then◌else◌}
use Rattle.std.specs.List.{list_any}
use Rattle.bsp_model.specs.declared.fault.Fault.{Fault}
use Rattle.bsp_model.specs.declared.fault.SyncFault.{SyncFault}
use Rattle.bsp_table.specs.declared.area.Area.{Area}
use Rattle.bsp_step.specs.OutcomeParts.{OutcomeParts}
use Rattle.bsp_deliver.specs.SyncFault.{sync_fault, some_sync}
use Rattle.bsp_run.specs.declared.result.ProcessFault.{ProcessFault}
use Rattle.bsp_run.specs.declared.result.Status.{Status}
use Rattle.bsp_run.specs.declared.result.Status.TheVariants.{Halted, Faulted, SyncFaulted}

abbrev pub fault_at : ℕ → Option Fault → List ProcessFault
fault_at p None = []
fault_at p (Some f) = record { pid = p; fault = f } ∷ []

-- the faults of these outcomes, where the first process has this number
abbrev pub faults_from : ℕ → List OutcomeParts → List ProcessFault
faults_from p [] = []
faults_from p (o ∷ os) = fault_at p o.fault ++ faults_from (p + 1) os

abbrev pub end_without_fault : ℕ → List OutcomeParts → Option SyncFault → Option Status
end_without_fault step os (Some f) = Some (SyncFaulted step f)
end_without_fault step os None = if some_sync os then None else Some Halted

-- How a run ends with a superstep of these outcomes; none where the superstep ends by delivery (this profile): by fault if some process has one, by sync fault, by halt.
unfoldable pub end_of : ℕ → List (List Area) → List OutcomeParts → Option Status
end_of step slots os =
    if list_any (λ o. is_some o.fault) os then Some (Faulted step (faults_from 0 os))
    else end_without_fault step os (sync_fault os slots)
