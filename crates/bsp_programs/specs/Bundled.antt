-- The bundled programs, and their names.
use Rattle.std.specs.Prelude.{ℕ, Bool, List, Option, None, Some, if◌then◌else◌, codes}
use Rattle.std.specs.Str.{bytes_eq}
use Rattle.bsp_step.specs.ViewParts.{ViewParts}
use Rattle.bsp_programs.specs.declared.bundled.Bundled.{Bundled as Programs}
use Rattle.bsp_programs.specs.declared.bundled.Bundled.TheVariants.{Broadcast, Prefix, MatVec, Rank}
use Rattle.bsp_step.specs.Plan.{Plan}
use Rattle.bsp_programs.specs.Broadcast.{broadcast_plan, broadcast_looks}
use Rattle.bsp_programs.specs.Prefix.{prefix_plan, prefix_looks}
use Rattle.bsp_programs.specs.MatVec.{matvec_plan, matvec_looks}
use Rattle.bsp_programs.specs.Rank.{rank_plan, rank_looks}

-- The program with this name (this profile).
abbrev pub program_named : List ℕ → Option Programs
program_named name =
    if bytes_eq name (codes "broadcast") then Some (Broadcast (record {}))
    else (if bytes_eq name (codes "prefix") then Some (Prefix (record {}))
    else (if bytes_eq name (codes "matvec") then Some (MatVec (record {}))
    else (if bytes_eq name (codes "rank") then Some (Rank (record {}))
    else None)))

-- A bundled program's turn is that of the program that it is.
abbrev pub bundled_plan : Programs → ViewParts → Plan
bundled_plan (Broadcast p) v = broadcast_plan v v.memory
bundled_plan (Prefix p) v = prefix_plan v v.memory
bundled_plan (MatVec p) v = matvec_plan v v.memory v.queue
bundled_plan (Rank p) v = rank_plan v v.memory

-- So is its footprint.
abbrev pub bundled_looks : Programs → ViewParts → ℕ → Bool
bundled_looks (Broadcast p) v address = broadcast_looks v address
bundled_looks (Prefix p) v address = prefix_looks v address
bundled_looks (MatVec p) v address = matvec_looks v address
bundled_looks (Rank p) v address = rank_looks v address
