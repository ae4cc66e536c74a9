use Rattle.std.proofs.Common.{◌≡◌, fold, map, take}
use Rattle.bsp_deliver.specs.Cost.{get_transfer}
use Rattle.bsp_causes.specs.Inside.Moved.{counted}
use Rattle.bsp_causes.proofs.moved.Moved.count_gets.Given as goal

-- the gets so far are counted
abbrev pub invariant-loop-get : goal.invariant-loop-get
invariant-loop-get l = l.self ≡ fold counted l.initial.self (map (get_transfer l.asker) (take l.get-index l.gets))
