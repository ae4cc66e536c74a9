use Rattle.bsp_crew.specs.Parts.{IsLeft}
use Rattle.bsp_crew.proofs.crew.Crew.add_pieces.Given as goal

abbrev pub invariant-loop-seat : goal.invariant-loop-seat
invariant-loop-seat g l = IsLeft g.J.SharedRun.turn g.J.SharedRun.views l.fn.rest l.fn.made l.left l.made
