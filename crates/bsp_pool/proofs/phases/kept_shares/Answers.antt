use Rattle.bsp_pool.proofs.phases.kept_shares.Goals as goal
use Rattle.bsp_pool.proofs.phases.kept_shares.Goals.{in-Some, in_default}

pub loop-seat-preserved : goal.loop-seat-preserved
loop-seat-preserved g c =
    elim c.match-take_back.branch [
      | in-Some w ↦ rw w.kept-is (w.keep_in.ensures c.loop-seat.invariant)
      | in_default w ↦ rw w.kept-is c.loop-seat.invariant
    ]
