use Rattle.std.proofs.Common.{◌≡◌, ◌∙◌, List, ap, sym, subst, length, refl, IfOk}
use Rattle.bsp_step.specs.ViewParts.{ViewParts}
use Rattle.bsp_run.specs.Run.{Run}
use Rattle.bsp_run.specs.Condition.{deliveries_of}
use Rattle.bsp_run.specs.Inside.Settings.{AreTurned}
use Rattle.bsp_scratch.proofs.UnrecordedRuns.{deliverable_turned}
use Rattle.bsp_run.proofs.NextViews.{opens_next, views_next}
use Rattle.bsp_run.proofs.Shares.{deliveries_made}
use Rattle.bsp_scratch.proofs.unrecorded.next_views.Goals as goal

pub next_setting-requires : goal.next_setting-requires
next_setting-requires c =
    record { turned = (c.requires.turned.0, subst (λ (vs : List ViewParts). AreTurned c.requires.turned.0 vs c.args.outcomes.now) (sym c.deref.ensures) c.requires.turned.1) }

pub deliver_moving-requires-clause-deliverable : goal.deliver_moving-requires-clause-deliverable
deliver_moving-requires-clause-deliverable c = deliverable_turned c.requires.turned.0 c.args.views c.args.outcomes.now c.requires.turned.1

pub open-requires : goal.open-requires
open-requires c =
    let r : Run = c.requires.turned.0 in
    let t : AreTurned r c.args.views c.args.outcomes.now = c.requires.turned.1 in
    let known = c.in_ok-setting.ensures r (subst (λ (vs : List ViewParts). AreTurned r vs c.args.outcomes.now) (sym c.deref.ensures) t) in
    let made = deliveries_made c.args.outcomes.now (length c.args.outcomes.now) c.args.processes.now c.deliver_moving.new.cells refl c.requires.processes c.in_ok-deliver_moving.ensures ∙ ap deliveries_of (sym t.outcomes) in
    opens_next r c.in_ok-setting.setting c.deliver_moving.new.cells t.run t.phase known made

pub returns : goal.returns
returns c = λ r t.
    let known = c.in_ok-setting.ensures r (subst (λ (vs : List ViewParts). AreTurned r vs c.args.outcomes.now) (sym c.deref.ensures) t) in
    let made = deliveries_made c.args.outcomes.now (length c.args.outcomes.now) c.args.processes.now c.deliver_moving.new.cells refl c.requires.processes c.in_ok-deliver_moving.ensures ∙ ap deliveries_of (sym t.outcomes) in
    subst (λ (vs : List ViewParts). IfOk c.new.result (λ next. next ≡ vs)) (c.in_ok-open.ensures ∙ views_next r c.in_ok-setting.setting c.deliver_moving.new.cells known made) c.new.ensures
