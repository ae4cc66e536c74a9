-- The text of a report, one definition per kind of line (this profile).
use Rattle.std.specs.Prelude.{ℕ, Bool, true, false, List, [], ◌∷◌, ◌++◌, length, codes, Option, None, Some}
use Rattle.std.specs.List.{flat_map}
use Rattle.bsp_model.specs.declared.cost.CostRow.{CostRow}
use Rattle.bsp_model.specs.declared.fault.SyncFault.{SyncFault}
use Rattle.bsp_model.specs.declared.fault.SyncFault.TheVariants.{MixedEnd, TagMismatch, PopMismatch, PushMismatch, TooManySlots}
use Rattle.bsp_run.specs.declared.result.ProcessFault.{ProcessFault}
use Rattle.bsp_run.specs.declared.result.RunResult.{RunResult}
use Rattle.bsp_run.specs.declared.result.Status.{Status}
use Rattle.bsp_run.specs.declared.result.Status.TheVariants.{Halted, Limit, Faulted, SyncFaulted}
use Rattle.bsp_incr.specs.declared.edit.EditFault.{EditFault}
use Rattle.bsp_incr.specs.declared.edit.EditFault.TheVariants.{NoSuchProcess, NoSuchWord, NoSuchArg, BadLimit, BadPrice}
use Rattle.bsp_incr.specs.declared.edit.EditRefusal.{EditRefusal}
use Rattle.bsp_incr.specs.declared.reply.Update.{Update}
use Rattle.bsp_text.specs.FaultWords.{fault_numbers, fault_word}
use Rattle.bsp_text.specs.Lines.{field, line, numbered}
use Rattle.bsp_engine.specs.Places.{place_lines}

-- `fault P Fn`, and for some the number that belongs to it
abbrev pub process_fault_line : ProcessFault → List ℕ
process_fault_line f = codes "fault" ++ field f.pid ++ codes " " ++ line (fault_word f.fault) (fault_numbers f.fault)

-- the faults at the end of a superstep, by number
abbrev pub sync_fault_word : SyncFault → List ℕ
sync_fault_word MixedEnd = codes "S1"
sync_fault_word TagMismatch = codes "S2"
sync_fault_word PopMismatch = codes "S3"
sync_fault_word PushMismatch = codes "S4"
sync_fault_word TooManySlots = codes "S5"

-- `status ..`, and then a line for each fault of a process
abbrev pub status_lines : Status → List ℕ
status_lines Halted = codes "status halted\n"
status_lines Limit = codes "status limit\n"
status_lines (Faulted step faults) = line (codes "status faulted") (step ∷ []) ++ flat_map process_fault_line faults
status_lines (SyncFaulted step fault) = codes "status syncfault" ++ field step ++ codes " " ++ line (sync_fault_word fault) []

-- `memory P W W ..`
abbrev pub memory_line : ℕ → List ℕ → List ℕ
memory_line pid memory = line (codes "memory") (pid ∷ memory)

-- `print P W W ..` for each line that the process printed
abbrev pub print_lines : ℕ → List (List ℕ) → List ℕ
print_lines pid lines = flat_map (λ words. line (codes "print") (pid ∷ words)) lines

-- `cost S W H C`
abbrev pub cost_line : ℕ → CostRow → List ℕ
cost_line step row = line (codes "cost") (step ∷ row.work ∷ row.h ∷ row.cost ∷ [])

-- the lines of a result
abbrev pub result_lines : RunResult → List ℕ
result_lines r =
    status_lines r.status ++ numbered memory_line 0 r.memories ++ numbered print_lines 0 r.lines
    ++ numbered cost_line 0 r.costs ++ line (codes "total") (r.total ∷ [])

-- `executed X redelivered Y`
abbrev pub counts_line : ℕ → ℕ → List ℕ
counts_line executed redelivered = codes "executed" ++ field executed ++ codes " " ++ line (codes "redelivered") (redelivered ∷ [])

-- `turns S P P ..` and then `deliveries S P P ..` for each superstep in which there were such, where they are asked for
abbrev pub update_places : Bool → Update → List ℕ
update_places false u = []
update_places true u = place_lines (codes "turns") u.executed ++ place_lines (codes "deliveries") u.redelivered

-- the lists of an update and more of it, where they are asked for, and how long they are; nothing where there is no update
abbrev pub update_lines : Bool → List ℕ → Option Update → List ℕ
update_lines places more None = []
update_lines places more (Some u) = update_places places u ++ more ++ counts_line (length u.executed) (length u.redelivered)

-- the faults of an edit, by number
abbrev pub edit_fault_word : EditFault → List ℕ
edit_fault_word NoSuchProcess = codes "E1"
edit_fault_word NoSuchWord = codes "E2"
edit_fault_word NoSuchArg = codes "E3"
edit_fault_word BadLimit = codes "E4"
edit_fault_word BadPrice = codes "E5"

-- `refused En at PLACE`
abbrev pub refusal_line : EditRefusal → List ℕ
refusal_line r = codes "refused " ++ edit_fault_word r.fault ++ codes " " ++ line (codes "at") (r.place ∷ [])
