-- What a registration table says of a local address. A table is a list of slots, oldest first; a slot has one area for each process.
use Rattle.std.specs.Prelude.{ℕ, Bool, false, List, [], Option, None, Some, length, ◌==◌, if◌then◌else◌, slice_get, zero, suc, ◌&&◌, not}
use Rattle.std.specs.List.{list_any}
use Rattle.bsp_table.specs.declared.area.Area.{Area}

abbrev pub starts_at : ℕ → Option Area → Bool
starts_at start None = false
starts_at start (Some a) = a.start == start

abbrev pub has_start : ℕ → ℕ → Option (List Area) → Bool
has_start pid start None = false
has_start pid start (Some areas) = starts_at start (slice_get areas pid)

-- Whether a slot that is not popped has an area for the process that starts there.
abbrev pub is_slot_named : List (List Area) → ℕ → ℕ → ℕ → List ℕ → Bool
is_slot_named slots slot pid start popped = has_start pid start (slice_get slots slot) && not (list_any (λ k. k == slot) popped)

-- The newest such slot among the first n.
abbrev pub newest_below : List (List Area) → ℕ → ℕ → List ℕ → ℕ → Option ℕ
newest_below slots pid start popped zero = None
newest_below slots pid start popped (suc n) =
    if is_slot_named slots n pid start popped then Some n else newest_below slots pid start popped n

-- A local address names, for a process, the newest slot whose area for it has that start (Hill et al. 1998). Slots in popped don't count.
abbrev pub newest_under : List (List Area) → ℕ → ℕ → List ℕ → Option ℕ
newest_under slots pid start popped = newest_below slots pid start popped (length slots)

abbrev pub newest : List (List Area) → ℕ → ℕ → Option ℕ
newest slots pid start = newest_under slots pid start []

abbrev pub area_in : Option (List Area) → ℕ → Option Area
area_in None pid = None
area_in (Some areas) pid = slice_get areas pid

-- The area of a process in a slot, where both exist.
abbrev pub area_at : List (List Area) → Option ℕ → ℕ → Option Area
area_at slots None pid = None
area_at slots (Some slot) pid = area_in (slice_get slots slot) pid
