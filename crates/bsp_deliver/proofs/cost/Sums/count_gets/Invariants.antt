use Rattle.std.proofs.Common.{◌≡◌, map, take, fold}
use Rattle.bsp_deliver.specs.Cost.{get_transfer}
use Rattle.bsp_deliver.specs.Inside.Sums.{is_target, counted_to}
use Rattle.bsp_deliver.proofs.cost.Sums.count_gets.Given as goal

-- the gets so far are counted
abbrev pub invariant-loop-get : goal.invariant-loop-get
invariant-loop-get l = l.self ≡ fold (counted_to (is_target l.targets)) l.initial.self (map (get_transfer l.sender) (take l.get-index l.gets))
