use Rattle.std.proofs.Common.{◌≡◌, length}
use Rattle.bsp_pool.proofs.lanes.hands_of_workers.Given as goal

abbrev pub invariant-loop-worker : goal.invariant-loop-worker
invariant-loop-worker l = length l.all.items ≡ l.worker

abbrev pub invariant-loop-lane : goal.invariant-loop-lane
invariant-loop-lane l = length l.all.items ≡ l.fn.workers

abbrev pub invariant-loop-worker-2 : goal.invariant-loop-worker-2
invariant-loop-worker-2 l = length l.all.items ≡ l.fn.workers
