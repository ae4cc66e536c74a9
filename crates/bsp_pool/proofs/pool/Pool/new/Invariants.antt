use Rattle.std.proofs.Common.{◌≡◌, ◌+◌, length}
use Rattle.std.specs.Vec.Iter.{into_iter_len}
use Rattle.bsp_pool.proofs.pool.Pool.new.Given as goal

-- each worker has a seat, or its hands and its sheet are still to be taken
abbrev pub invariant-loop-hands : goal.invariant-loop-hands
invariant-loop-hands g l =
    record {
      can_next : (goal.iterator-loop-hands g).can_next l.hands-iterator;
      is_finite : (goal.iterator-loop-hands g).is_finite l.hands-iterator;
      seats : length l.seats.items + into_iter_len l.hands-iterator.a ≡ l.workers;
      sheets : into_iter_len l.hands-iterator.a ≡ into_iter_len l.hands-iterator.b;
    }
