use Rattle.std.proofs.Common.{◌≡◌, None, replicate}
use Rattle.bsp_pool.proofs.round.no_outputs.Given as goal

abbrev pub invariant-loop-number : goal.invariant-loop-number
invariant-loop-number g l = l.outputs.items ≡ replicate l._number None
