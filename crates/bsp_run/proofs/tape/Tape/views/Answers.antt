use Rattle.std.proofs.Common.{◌∙◌, sym, subst, All}
use Rattle.bsp_step.specs.ViewParts.{IsView}
use Rattle.bsp_run.specs.Run.{Run}
use Rattle.bsp_run.specs.Inside.Tape.{run_of}
use Rattle.bsp_run.proofs.Turns.{views_within}
use Rattle.bsp_run.proofs.tape.Tape.views.Goals as goal

pub returns-in_default-clause-limits : goal.returns-in_default-clause-limits
returns-in_default-clause-limits c e =
    let r : Run = run_of c.self.inside in
    subst (All IsView) (sym (c.as_ref-in_default.ensures ∙ c.deref-in_default.ensures ∙ c.self.invariant.views)) (views_within r c.self.invariant.run)
