use Rattle.std.proofs.Common.{◌≡◌, max, drop}
use Rattle.bsp_deliver.specs.Cost.{largest}
use Rattle.bsp_causes.proofs.moved.largest.Given as goal

-- the largest so far, and the largest of what is left
abbrev pub invariant-loop-number : goal.invariant-loop-number
invariant-loop-number l = max l.most (largest (drop l.number-index l.numbers)) ≡ largest l.numbers
