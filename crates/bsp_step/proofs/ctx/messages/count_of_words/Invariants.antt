use Rattle.std.proofs.Common.{◌≡◌, ◌+◌, length, drop, sum_by}
use Rattle.bsp_step.proofs.ctx.messages.count_of_words.Given as goal

-- with those that are to come the words are all
abbrev pub invariant-loop-place : goal.invariant-loop-place
invariant-loop-place l = l.words + sum_by (λ m. length m.words) (drop l.place l.messages) ≡ sum_by (λ m. length m.words) (drop l.from l.messages)
