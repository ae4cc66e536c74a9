-- The table after the end of a superstep, and when there is none. Pops and pushes are given by process: slots of the old table, and areas, in issue order.
use Rattle.std.specs.Prelude.{ℕ, ◌+◌, ◌≤◌, ◌<◌, ◌≢◌, ◌≡◌, Bool, true, List, [], ◌∷◌, ◌++◌, Option, None, Some, length, map, filter, ◌==◌, if◌then◌else◌, not, nat_lt, nat_eq, slice_index, slice_index_or, All, AllPairs}
use Rattle.std.specs.List.{list_any, list_all, range_with_len}
use lib.Pointwise.{pointwise}
use Rattle.bsp_model.specs.Limits.{most_slots}
use Rattle.bsp_model.specs.declared.fault.SyncFault.{SyncFault}
use Rattle.bsp_model.specs.declared.fault.SyncFault.TheVariants.{PopMismatch, PushMismatch, TooManySlots}
use Rattle.bsp_table.specs.declared.area.Area.{Area}

-- some process popped the slot
abbrev pub is_popped : List (List ℕ) → ℕ → Bool
is_popped pops slot = list_any (λ popped. list_any (λ k. k == slot) popped) pops

-- The slots that no pop names, in their order. Pops are resolved against the table that stood during the superstep (own: this profile).
abbrev pub kept_slots : List (List Area) → List (List ℕ) → List (List Area)
kept_slots slots pops = map (λ slot. slice_index_or slots slot []) (filter (λ slot. not (is_popped pops slot)) (range_with_len 0 (length slots)))

abbrev pub no_area : Area
no_area = record { start = 0; len = 0 }

-- the k-th pushes of all processes
abbrev pub pushed_slot : List (List Area) → ℕ → List Area
pushed_slot pushes k = map (λ pushed. slice_index_or pushed k no_area) pushes

-- how many areas the first process pushed
abbrev pub count_of_pushes : List (List Area) → ℕ
count_of_pushes [] = 0
count_of_pushes (pushed ∷ others) = length pushed

-- For k = 0, 1, .. one slot made of the k-th pushes of all processes (Hill et al. 1998).
abbrev pub pushed_slots : List (List Area) → List (List Area)
pushed_slots pushes = map (pushed_slot pushes) (range_with_len 0 (count_of_pushes pushes))

-- The new table, where there is no fault.
abbrev pub next_table : List (List Area) → List (List ℕ) → List (List Area) → List (List Area)
next_table slots pops pushes = kept_slots slots pops ++ pushed_slots pushes

-- each member is the same as the first
abbrev pub are_alike : {X : Type 0} → (X → X → Bool) → List X → Bool
are_alike same [] = true
are_alike same (x ∷ xs) = list_all (same x) xs

-- The first of PopMismatch, PushMismatch and TooManySlots that holds (this profile).
abbrev pub table_fault : List (List Area) → List (List ℕ) → List (List Area) → Option SyncFault
table_fault slots pops pushes =
    if not (are_alike (pointwise nat_eq) pops) then Some PopMismatch
    else (if not (are_alike (λ p q. length p == length q) pushes) then Some PushMismatch
    else (if nat_lt most_slots (length (kept_slots slots pops) + count_of_pushes pushes) then Some TooManySlots
    else None))

-- distinct slots of a table
pub record AreSlots (slots : List (List Area)) (popped : List ℕ) : Type 0 where
  pub each : All (λ slot. slot < length slots) popped
  pub distinct : AllPairs (λ j k. j ≢ k) popped

-- each slot has an area for each process
abbrev pub AreFull : ℕ → List (List Area) → Type 0
AreFull nprocs slots = All (λ areas. length areas ≡ nprocs) slots

-- each area of each slot lies inside its process's memory, whose length is the size
abbrev pub IsSlotInside : List ℕ → List Area → Type 0
IsSlotInside sizes areas = (p : ℕ) → p < length areas → (slice_index_or areas p no_area).start + (slice_index_or areas p no_area).len ≤ slice_index sizes p

abbrev pub AreSlotsInside : List ℕ → List (List Area) → Type 0
AreSlotsInside sizes slots = All (IsSlotInside sizes) slots

-- each pushed area lies inside its process's memory
abbrev pub ArePushesInside : List ℕ → List (List Area) → Type 0
ArePushesInside sizes pushes = (p k : ℕ) → p < length pushes → k < length (slice_index_or pushes p []) → (slice_index_or (slice_index_or pushes p []) k no_area).start + (slice_index_or (slice_index_or pushes p []) k no_area).len ≤ slice_index sizes p

-- each area ends at the bound or before it
abbrev pub AreWithin : ℕ → List Area → Type 0
AreWithin bound areas = All (λ a. a.start + a.len ≤ bound) areas

abbrev pub AreSlotsWithin : ℕ → List (List Area) → Type 0
AreSlotsWithin bound slots = All (AreWithin bound) slots
