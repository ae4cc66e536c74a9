use Rattle.std.proofs.Common.{◌≡◌, ◌<◌, ℕ, length, get_or, true, false}
use Rattle.bsp_deliver.proofs.next_memories.set_of.Given as goal

-- The processes so far are in the set.
abbrev pub invariant-loop-process : goal.invariant-loop-process
invariant-loop-process l = record {
  count : length l.set ≡ l.count;
  members : (k : ℕ) → k < l.process-index → get_or l.set (get_or l.processes k 0) false ≡ true;
}
