use Rattle.std.proofs.Common.{◌≡◌, List, IfOk, map, subst}
use Rattle.bsp_step.specs.ViewParts.{ViewParts}
use Rattle.bsp_model.specs.Replaced.{replaced}
use Rattle.bsp_run.specs.State.{cell_of}
use Rattle.bsp_run.specs.Condition.{IsRun}
use Rattle.bsp_run.proofs.NextViews.{opens_next, views_next}
use Rattle.bsp_run.proofs.tape.Tape.next_views_like.Goals as goal

pub replaced-requires-clause-opens : goal.replaced-requires-clause-opens
replaced-requires-clause-opens c =
    opens_next c.args.self.now c.args.setting (replaced (map cell_of c.args.like.now) c.args.processes.items c.args.cells) (subst IsRun c.self.view_is c.self.invariant.run) c.requires.turned c.requires.setting c.requires.cells

pub returns : goal.returns
returns c =
    subst (λ (vs : List ViewParts). IfOk c.replaced.result (λ views. views ≡ vs))
    (views_next c.args.self.now c.args.setting (replaced (map cell_of c.args.like.now) c.args.processes.items c.args.cells) c.requires.setting c.requires.cells) c.replaced.ensures
