use Rattle.std.proofs.Common.{◌≡◌, None}
use Rattle.std.specs.Prelude.{IfNone}
use Rattle.bsp_run.proofs.Runs.{supersteps_left}
use Rattle.bsp_incr.specs.Inside.Given.{IsGoingOn}
use Rattle.bsp_incr.proofs.rerun.remaking.supersteps.Given as goal

abbrev pub invariant-loop-given : goal.invariant-loop-given
invariant-loop-given g l = record {
  going_on : IsGoingOn g.P.Program l.fn.given l.tape l.under_way;
  pace : IfNone l.fn.pace (l.pace ≡ None);
}

abbrev pub decreases-loop-given : goal.decreases-loop-given
decreases-loop-given g l = supersteps_left l.tape
