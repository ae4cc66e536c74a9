use Rattle.std.proofs.Common.{◌≡◌, map, take, fold}
use Rattle.bsp_deliver.specs.Cost.{put_transfer}
use Rattle.bsp_deliver.specs.Inside.Sums.{is_target, counted_to}
use Rattle.bsp_deliver.proofs.cost.Sums.count_puts.Given as goal

-- the puts so far are counted
abbrev pub invariant-loop-place : goal.invariant-loop-place
invariant-loop-place l = l.self ≡ fold (counted_to (is_target l.targets)) l.initial.self (map (put_transfer l.sender) (take l.place l.puts))
