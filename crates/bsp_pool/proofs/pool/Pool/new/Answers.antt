use Rattle.std.proofs.Common.{arith, inl, inr}
use Rattle.bsp_pool.proofs.pool.Pool.new.Goals as goal

pub returns : goal.returns
returns g c =
    let seats = c.loop-hands.invariant.seats in
    let sheets = c.loop-hands.invariant.sheets in
    let workers = c.len-workers.ensures in
    elim c.in-None.ensures.steps [
      | inl hands ↦ omega (arith, seats, workers, hands.1.0)
      | inr others ↦ omega (arith, seats, sheets, workers, others.1.0)
    ]
