-- The faults of a superstep's end, and the next tag size.
use Rattle.std.specs.Prelude.{ℕ, Bool, true, false, ◌&&◌, ◌==◌, not, List, [], ◌∷◌, map, Option, None, Some, unwrap_or, if◌then◌else◌}
use Rattle.std.specs.List.{list_any}
use Rattle.bsp_model.specs.declared.fault.SyncFault.{SyncFault}
use Rattle.bsp_model.specs.declared.fault.SyncFault.TheVariants.{MixedEnd, TagMismatch}
use Rattle.bsp_table.specs.declared.area.Area.{Area}
use Rattle.bsp_table.specs.NextTable.{are_alike, table_fault}
use Rattle.bsp_step.specs.declared.outcome.Ended.{Ended}
use Rattle.bsp_step.specs.declared.outcome.Ended.TheVariants.{Sync, Halt}
use Rattle.bsp_step.specs.OutcomeParts.{OutcomeParts}

abbrev pub is_sync : Ended → Bool
is_sync Sync = true
is_sync Halt = false

-- some processes end by sync, and some by halt
abbrev pub some_sync : List OutcomeParts → Bool
some_sync os = list_any (λ o. is_sync o.ended) os

abbrev pub some_halt : List OutcomeParts → Bool
some_halt os = list_any (λ o. not (is_sync o.ended)) os

-- the same size, or none both times
abbrev pub same_tag : Option ℕ → Option ℕ → Bool
same_tag None None = true
same_tag None (Some n) = false
same_tag (Some m) None = false
same_tag (Some m) (Some n) = m == n

-- The first that holds: some end by sync and some by halt; else none where all halt; else the choices of the tag size aren't all equal; else the
-- first fault of the table (this profile).
abbrev pub sync_fault : List OutcomeParts → List (List Area) → Option SyncFault
sync_fault os slots =
    if some_sync os && some_halt os then Some MixedEnd
    else (if not (some_sync os) then None
    else (if not (are_alike same_tag (map (λ o. o.tag) os)) then Some TagMismatch
    else table_fault slots (map (λ o. o.pops) os) (map (λ o. o.pushes) os)))

-- The common choice, or the old size where none was made (Hill et al. 1998). It is used only where all choices are equal.
abbrev pub next_tag_size : ℕ → List OutcomeParts → ℕ
next_tag_size old [] = old
next_tag_size old (o ∷ os) = unwrap_or o.tag old
