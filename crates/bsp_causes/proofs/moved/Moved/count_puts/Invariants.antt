use Rattle.std.proofs.Common.{◌≡◌, filter, fold, map, take}
use Rattle.bsp_deliver.specs.Cost.{put_transfer}
use Rattle.bsp_causes.specs.Inside.Moved.{counted}
use Rattle.bsp_causes.specs.Inside.Travel.{is_in}
use Rattle.bsp_causes.proofs.moved.Moved.count_puts.Given as goal

-- the puts so far are counted that are to one of the targets
abbrev pub invariant-loop-place : goal.invariant-loop-place
invariant-loop-place l = l.self ≡ fold counted l.initial.self (map (put_transfer l.sender) (filter (λ p. is_in l.targets p.target) (take l.place l.puts)))
