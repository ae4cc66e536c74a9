use Rattle.bsp_crew.specs.Parts.{IsLeft}
use Rattle.bsp_crew.proofs.crew.Crew.draw.Given as goal

abbrev pub invariant-loop-drawn : goal.invariant-loop-drawn
invariant-loop-drawn g l = IsLeft g.J.SharedRun.turn g.J.SharedRun.views l.fn.whole l.fn.made l.rest l.made
