use Rattle.std.proofs.Common.{◌≡◌, ◌++◌, length}
use Rattle.bsp_model.proofs.memory.append_in_parts.Given as goal

abbrev pub invariant-loop-rest : goal.invariant-loop-rest
invariant-loop-rest l = l.words.items ++ l.rest ≡ l.initial.words.items ++ l.more

abbrev pub decreases-loop-rest : goal.decreases-loop-rest
decreases-loop-rest l = length l.rest
