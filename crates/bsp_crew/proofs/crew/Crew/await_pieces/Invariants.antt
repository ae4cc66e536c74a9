use Rattle.bsp_crew.specs.Parts.{IsLeft}
use Rattle.bsp_crew.proofs.crew.Crew.await_pieces.Given as goal

abbrev pub invariant-loop-look : goal.invariant-loop-look
invariant-loop-look g l = IsLeft g.J.SharedRun.turn g.J.SharedRun.views l.fn.rest l.fn.made l.left l.made
