use Rattle.std.proofs.Common.{◌≡◌, map, take, fold}
use Rattle.bsp_deliver.specs.Cost.{send_transfer}
use Rattle.bsp_deliver.specs.Inside.Sums.{is_target, counted_to}
use Rattle.bsp_deliver.proofs.cost.Sums.count_sends.Given as goal

-- the sends so far are counted
abbrev pub invariant-loop-place : goal.invariant-loop-place
invariant-loop-place l = l.self ≡ fold (counted_to (is_target l.targets)) l.initial.self (map (send_transfer l.sender) (take l.place l.sends))
