use Rattle.std.proofs.Common.{sym, subst, All}
use Rattle.bsp_step.specs.ViewParts.{IsView}
use Rattle.bsp_run.specs.Run.{Run}
use Rattle.bsp_run.specs.Inside.Tape.{run_of}
use Rattle.bsp_run.proofs.Turns.{views_within}
use Rattle.bsp_run.proofs.tape.Tape.open_views.Goals as goal

pub returns-clause-limits : goal.returns-clause-limits
returns-clause-limits c e =
    let r : Run = run_of c.self.inside in
    subst (All IsView) (sym c.self.invariant.views) (views_within r c.self.invariant.run)
