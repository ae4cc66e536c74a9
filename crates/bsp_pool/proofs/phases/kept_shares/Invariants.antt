use Rattle.bsp_pool.specs.Inside.Kept.{AreKept}
use Rattle.bsp_pool.proofs.phases.kept_shares.Given as goal

abbrev pub invariant-loop-seat : goal.invariant-loop-seat
invariant-loop-seat g l = AreKept g.N.Outputs.outputs l.kept.items
