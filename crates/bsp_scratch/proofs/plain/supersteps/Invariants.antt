use Rattle.std.proofs.Common.{◌≡◌, ◌-◌, None}
use Rattle.std.specs.Prelude.{IfNone}
use Rattle.bsp_run.specs.TurnBy.{turn_by}
use Rattle.bsp_scratch.specs.Inside.Underway.{HasLeft}
use Rattle.bsp_scratch.proofs.plain.supersteps.Given as goal

-- what is kept is that of the run so far, and the supersteps that are left make it the run
abbrev pub invariant-loop-step : goal.invariant-loop-step
invariant-loop-step g l = record {
  so_far : HasLeft (turn_by g.P.Program l.fn.means.program.now) l.fn.input l._step (l._step-end - l._step) l.views l.kept;
  end : l.kept.end ≡ None;
  step : l.kept.step ≡ l._step;
  pace : IfNone l.fn.pace (l.pace ≡ None);
  limit : l._step-end ≡ l.fn.input.limit;
}
