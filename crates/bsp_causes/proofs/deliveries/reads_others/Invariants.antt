use Rattle.std.proofs.Common.{◌≡◌, false, take}
use Rattle.std.specs.List.{list_any}
use Rattle.bsp_causes.specs.DeliveryCauses.{reads_others}
use Rattle.bsp_causes.proofs.deliveries.reads_others.Given as goal

-- none of the gets so far reads other words of the owner
abbrev pub invariant-loop-get : goal.invariant-loop-get
invariant-loop-get l = list_any (reads_others l.old l.new l.owner) (take l.get-index l.gets) ≡ false
