use Rattle.std.proofs.Common.{◌≡◌, ◌≤◌, ◌-◌, length, take}
use Rattle.bsp_model.proofs.seq.are_same_words.Given as goal

-- the words so far are the same
abbrev pub invariant-loop-at : goal.invariant-loop-at
invariant-loop-at l = record { within : l.at ≤ length l.left; same : take l.at l.left ≡ take l.at l.right }

abbrev pub decreases-loop-at : goal.decreases-loop-at
decreases-loop-at l = length l.left - l.at
