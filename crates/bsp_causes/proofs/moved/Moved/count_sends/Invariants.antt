use Rattle.std.proofs.Common.{◌≡◌, filter, fold, map, take}
use Rattle.bsp_deliver.specs.Cost.{send_transfer}
use Rattle.bsp_causes.specs.Inside.Moved.{counted}
use Rattle.bsp_causes.specs.Inside.Travel.{is_in}
use Rattle.bsp_causes.proofs.moved.Moved.count_sends.Given as goal

-- the sends so far are counted that are to one of the targets
abbrev pub invariant-loop-place : goal.invariant-loop-place
invariant-loop-place l = l.self ≡ fold counted l.initial.self (map (send_transfer l.sender) (filter (λ m. is_in l.targets m.target) (take l.place l.sends)))
