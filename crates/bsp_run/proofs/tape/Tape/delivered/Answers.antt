use Rattle.std.proofs.Common.{◌∙◌, subst}
use Rattle.bsp_run.specs.Condition.{IsRun}
use Rattle.bsp_run.proofs.NextViews.{opens_next, views_next}
use Rattle.bsp_run.proofs.tape.Tape.delivered.Goals as goal

pub open-requires : goal.open-requires
open-requires c = opens_next c.args.self.now c.in_ok-setting.setting c.args.cells (subst IsRun c.self.view_is c.self.invariant.run) c.requires.turned c.in_ok-setting.ensures c.requires.cells

pub delivered_as-requires-clause-views : goal.delivered_as-requires-clause-views
delivered_as-requires-clause-views c = c.in_ok-views.ensures ∙ views_next c.args.self.now c.in_ok-setting.setting c.args.cells c.in_ok-setting.ensures c.requires.cells
