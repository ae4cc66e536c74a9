-- What private functions ask of a run so far.
use Rattle.std.specs.Prelude.{◌≡◌, ◌≤◌, ℕ, None, List, map, length, All}
use Rattle.bsp_model.specs.Limits.{most_memory_words, most_processes, most_slots}
use Rattle.bsp_table.specs.declared.area.Area.{Area}
use Rattle.bsp_table.specs.NextTable.{AreFull, AreSlots, AreSlotsInside, AreSlotsWithin, ArePushesInside, AreWithin, table_fault}
use Rattle.bsp_step.specs.OutcomeParts.{OutcomeParts}
use Rattle.bsp_run.specs.State.{pops_of, pushes_of}

-- A next table within the limits, whose areas lie inside the memories.
pub record IsNextTable (n : ℕ) (ns : List ℕ) (slots : List (List Area)) : Type 0 where
  pub few : length slots ≤ most_slots
  pub full : AreFull n slots
  pub inside : AreSlotsInside ns slots
  pub within : AreSlotsWithin most_memory_words slots

-- What the step to the next table asks: the turns of processes that all see this table, at whose end there is no fault.
pub record CanSync (slots : List (List Area)) (os : List OutcomeParts) : Type 0 where
  pub some : 1 ≤ length os
  pub few : length os ≤ most_processes
  pub full : AreFull (length os) slots
  pub pops : All (λ o. AreSlots slots o.pops) os
  pub faultless : table_fault slots (pops_of os) (pushes_of os) ≡ None
  pub inside : AreSlotsInside (map (λ o. length o.memory) os) slots
  pub pushes : ArePushesInside (map (λ o. length o.memory) os) (pushes_of os)
  pub within : AreSlotsWithin most_memory_words slots
  pub short_pushes : All (λ o. AreWithin most_memory_words o.pushes) os
