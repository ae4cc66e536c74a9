use Rattle.std.proofs.Common.{◌≡◌, ◌%◌, ◌^◌, take, sum}
use Rattle.heat.proofs.kernel.sum_of.Given as goal

-- the sum of the words so far
abbrev pub invariant-loop-word : goal.invariant-loop-word
invariant-loop-word l = l.sum ≡ sum (take l.word-index l.words) % 2 ^ 64
