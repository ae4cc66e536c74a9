use Rattle.std.proofs.Common.{◌≡◌, filter, fold, map, take}
use Rattle.bsp_deliver.specs.Cost.{get_transfer}
use Rattle.bsp_causes.specs.Inside.Moved.{counted}
use Rattle.bsp_causes.specs.Inside.Travel.{reads_other}
use Rattle.bsp_causes.proofs.moved.Moved.count_other_gets.Given as goal

-- the gets so far are counted that read other words
abbrev pub invariant-loop-get : goal.invariant-loop-get
invariant-loop-get l = l.self ≡ fold counted l.initial.self (map (get_transfer l.asker) (filter (reads_other l.before l.after) (take l.get-index l.gets)))
