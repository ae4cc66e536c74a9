-- The programs of this tool, and their names.
use Rattle.std.specs.Prelude.{ℕ, Bool, List, Option, None, Some, if◌then◌else◌, codes}
use Rattle.std.specs.Str.{bytes_eq}
use Rattle.bsp_step.specs.Plan.{Plan}
use Rattle.bsp_step.specs.ViewParts.{ViewParts}
use Rattle.collectives.specs.declared.catalogue.Collective.{Collective as Collectives}
use Rattle.collectives.specs.declared.catalogue.Collective.TheVariants.{Moving, Combining, Parting}
use Rattle.collectives.specs.declared.moving.Moving.TheVariants.{Broadcast, BroadcastInTwo, Scatter, Gather, AllGather, Exchange}
use Rattle.collectives.specs.declared.combining.Combining.TheVariants.{Reduce, AllReduce, Scan}
use Rattle.collectives.specs.Moving.{moving_plan, moving_looks}
use Rattle.collectives.specs.Combining.{combining_plan, combining_looks}
use Rattle.collectives.specs.Parting.{parting_plan, parting_looks}

-- The program with this name (this profile).
abbrev pub program_named : List ℕ → Option Collectives
program_named name =
    if bytes_eq name (codes "broadcast") then Some (Moving Broadcast)
    else (if bytes_eq name (codes "broadcast_in_two") then Some (Moving BroadcastInTwo)
    else (if bytes_eq name (codes "scatter") then Some (Moving Scatter)
    else (if bytes_eq name (codes "gather") then Some (Moving Gather)
    else (if bytes_eq name (codes "all_gather") then Some (Moving AllGather)
    else (if bytes_eq name (codes "exchange") then Some (Moving Exchange)
    else (if bytes_eq name (codes "reduce") then Some (Combining Reduce)
    else (if bytes_eq name (codes "all_reduce") then Some (Combining AllReduce)
    else (if bytes_eq name (codes "scan") then Some (Combining Scan)
    else (if bytes_eq name (codes "exchange_parts") then Some (Parting (record {}))
    else None)))))))))

-- Its turn is that of the call that it makes.
abbrev pub collective_plan : Collectives → ViewParts → Plan
collective_plan (Moving call) v = moving_plan call v v.memory v.queue
collective_plan (Combining call) v = combining_plan call v v.memory v.queue
collective_plan (Parting call) v = parting_plan v v.memory v.queue

-- So is its footprint.
abbrev pub collective_looks : Collectives → ViewParts → ℕ → Bool
collective_looks (Moving call) v address = moving_looks call v address
collective_looks (Combining call) v address = combining_looks v address
collective_looks (Parting call) v address = parting_looks v address
