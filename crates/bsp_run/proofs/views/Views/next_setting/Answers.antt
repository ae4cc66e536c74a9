use Rattle.std.proofs.Common.{◌≤◌, ◌+◌, ◌∙◌, List, ap, length, subst, sym, arith}
use Rattle.std.proofs.lemmas.List.{length-map}
use Rattle.bsp_table.specs.declared.area.Area.{Area}
use Rattle.bsp_step.specs.OutcomeParts.{OutcomeParts}
use Rattle.bsp_run.specs.Run.{Run}
use Rattle.bsp_run.specs.Condition.{IsTurned}
use Rattle.bsp_run.specs.Inside.Condition.{CanSync}
use Rattle.bsp_run.specs.Inside.Settings.{AreTurned}
use Rattle.bsp_run.proofs.Phases.{can_sync, is_turned_run}
use Rattle.bsp_run.proofs.Settings.{open_setting, setting_next}
use Rattle.bsp_run.proofs.views.Views.next_setting.Goals as goal

pub overflow_add-result : goal.overflow_add-result
overflow_add-result c =
    let r : Run = c.requires.turned.0 in
    let t : AreTurned r c.args.self.now c.args.outcomes.now = c.requires.turned.1 in
    let is = open_setting r c.args.self.now c.setting-setting.result.now t.run t.views c.setting-setting.ensures in
    let turned : IsTurned r = is_turned_run r t.run t.phase in
    omega (arith, is.step, turned.room, t.run.few_supersteps)

pub next_tag_size-requires : goal.next_tag_size-requires
next_tag_size-requires c =
    let r : Run = c.requires.turned.0 in
    let t : AreTurned r c.args.self.now c.args.outcomes.now = c.requires.turned.1 in
    subst (λ (os : List OutcomeParts). 1 ≤ length os) t.outcomes (can_sync r t.run (is_turned_run r t.run t.phase)).some

pub next-requires-clause-some : goal.next-requires-clause-some
next-requires-clause-some c =
    let r : Run = c.requires.turned.0 in
    let t : AreTurned r c.args.self.now c.args.outcomes.now = c.requires.turned.1 in
    let is = can_sync r t.run (is_turned_run r t.run t.phase) in
    omega (arith, is.some, ap (λ (os : List OutcomeParts). length os) t.outcomes, length-map c.args.outcomes.now (λ (o : OutcomeParts). o.pops))

pub next-requires-clause-faultless : goal.next-requires-clause-faultless
next-requires-clause-faultless c =
    let r : Run = c.requires.turned.0 in
    let t : AreTurned r c.args.self.now c.args.outcomes.now = c.requires.turned.1 in
    let is = open_setting r c.args.self.now c.setting-setting.result.now t.run t.views c.setting-setting.ensures in
    let can : CanSync c.setting-setting.result.now.table c.args.outcomes.now =
    subst (λ (os : List OutcomeParts). CanSync c.setting-setting.result.now.table os) t.outcomes
    (subst (λ (slots : List (List Area)). CanSync slots r.outcomes) (sym is.table) (can_sync r t.run (is_turned_run r t.run t.phase))) in
    can.faultless

pub returns : goal.returns
returns c = λ r t.
    let setting = c.setting-setting.result.now in
    let args = c.in_ok-copy.ensures in
    let table = c.in_ok-next.ensures in
    let tag = c.next_tag_size.ensures.choice in
    (λ i. record { step = setting.step + 1; args = args i; table = table i; tag_size = tag i }) ∙ setting_next r c.args.self.now c.args.outcomes.now setting t c.setting-setting.ensures
