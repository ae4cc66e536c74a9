use Rattle.std.proofs.Common.{length}
use Rattle.bsp_crew.specs.Parts.{IsLeft}
use Rattle.bsp_crew.proofs.crew.Crew.gather.Given as goal

abbrev pub invariant-loop-rest : goal.invariant-loop-rest
invariant-loop-rest g l = IsLeft g.J.SharedRun.turn g.J.SharedRun.views l.fn.rest l.fn.made l.rest l.made

abbrev pub decreases-loop-rest : goal.decreases-loop-rest
decreases-loop-rest g l = length l.rest.processes.now
