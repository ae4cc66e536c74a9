use Rattle.std.proofs.Common.{◌≡◌, length}
use Rattle.bsp_pool.proofs.phases.pool_of.Given as goal

abbrev pub invariant-loop-worker : goal.invariant-loop-worker
invariant-loop-worker g l = length l.sheets.items ≡ l._worker
