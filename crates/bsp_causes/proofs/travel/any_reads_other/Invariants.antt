use Rattle.std.proofs.Common.{◌≡◌, false, take}
use Rattle.std.specs.List.{list_any}
use Rattle.bsp_causes.specs.Inside.Travel.{reads_other}
use Rattle.bsp_causes.proofs.travel.any_reads_other.Given as goal

-- none of the gets so far reads other words
abbrev pub invariant-loop-get : goal.invariant-loop-get
invariant-loop-get l = list_any (reads_other l.before l.after) (take l.get-index l.gets) ≡ false
