use Rattle.std.proofs.Common.{◌≡◌, List, All, Option, IfOk, sym, subst, length, arith}
use Rattle.bsp_run.specs.Inside.Settings.{HaveTurns}
use Rattle.bsp_run.specs.declared.result.Status.{Status}
use Rattle.bsp_table.specs.declared.area.Area.{Area}
use Rattle.bsp_table.specs.NextTable.{AreSlots}
use Rattle.bsp_step.specs.OutcomeParts.{OutcomeParts}
use Rattle.bsp_run.specs.Ending.{end_of}
use Rattle.bsp_run.specs.Run.{Run}
use Rattle.bsp_run.proofs.Conditions.{count_of_outcomes, pops_are_slots}
use Rattle.bsp_run.proofs.Settings.{open_setting}
use Rattle.bsp_run.proofs.views.Views.end.Goals as goal

pub end_of-requires-clause-some : goal.end_of-requires-clause-some
end_of-requires-clause-some c =
    let r : Run = c.requires.turns.0 in
    let t : HaveTurns r c.args.self.now c.args.outcomes.now = c.requires.turns.1 in
    omega (arith, t.run.state.some, count_of_outcomes r.args (length r.past) r.state c.args.outcomes.now t.turns)

pub end_of-requires-clause-slots : goal.end_of-requires-clause-slots
end_of-requires-clause-slots c =
    let r : Run = c.requires.turns.0 in
    let t : HaveTurns r c.args.self.now c.args.outcomes.now = c.requires.turns.1 in
    let is = open_setting r c.args.self.now c.setting-setting.result.now t.run t.views c.setting-setting.ensures in
    subst (λ (slots : List (List Area)). All (λ (o : OutcomeParts). AreSlots slots o.pops) c.args.outcomes.now) (sym is.table) (pops_are_slots r.args (length r.past) r.state c.args.outcomes.now t.turns)

pub returns : goal.returns
returns c = λ r t.
    let setting = c.setting-setting.result.now in
    let os : List OutcomeParts = c.args.outcomes.now in
    let is = open_setting r c.args.self.now setting t.run t.views c.setting-setting.ensures in
    let same : end_of setting.step setting.table os ≡ end_of (length r.past) r.state.table os = λ i. end_of (is.step i) (is.table i) os in
    subst (λ (ending : Option Status). IfOk c.end_of.result (λ e. e ≡ ending)) same c.end_of.ensures
