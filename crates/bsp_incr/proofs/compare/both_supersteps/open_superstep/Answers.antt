use Rattle.std.proofs.Common.{◌≡◌, ◌<◌, ◌∙◌, IfNone, IfSome, List, [], None, Option, Some, ap, arith, sym, subst, length, map}
use Rattle.std.proofs.lemmas.List.{length-map}
use Rattle.bsp_step.specs.ViewParts.{ViewParts}
use Rattle.bsp_step.specs.OutcomeParts.{OutcomeParts}
use Rattle.bsp_deliver.specs.Condition.{AreDeliverable}
use Rattle.bsp_run.specs.Run.{Run}
use Rattle.bsp_run.proofs.Records.{open_views-in}
use Rattle.bsp_run.proofs.Runs.{open_phase}
use Rattle.bsp_incr.specs.Inside.Before.{views_before, outcomes_before}
use Rattle.bsp_run.specs.TurnBy.{turn_by}
use Rattle.bsp_incr.specs.Inside.Given.{Making, IsMaking}
use Rattle.bsp_incr.specs.Inside.Marks.{HaveOneTable}
use Rattle.bsp_incr.proofs.Carrying.{nothing}
use Rattle.bsp_incr.proofs.Remaking.{count_taken}
use Rattle.bsp_incr.proofs.RunBefore.{table_before, turns_before, open_table}
use Rattle.bsp_incr.proofs.compare.both_supersteps.open_superstep.Goals as goal

pub returns-clause-given : goal.returns-clause-given
returns-clause-given g c = subst (IsMaking g.P.Program) c.given.view_is c.given.invariant

pub invariant_of-result : goal.invariant_of-result
invariant_of-result g c =
    let turn = turn_by g.P.Program c.args.given.now.program in
    let input = c.args.given.now.input in
    let old : Option Run = c.args.given.now.before in
    let r : Run = c.args.tape.now in
    let known = subst (IsMaking g.P.Program) c.given.view_is c.given.invariant in
    let before = c.views_before.ensures ∙ ap (λ (m : Making _). views_before m.before c.step-step.result) c.given.view_is ∙ ap (views_before old) c.step-step.ensures in
    let now = c.open_views.ensures.views in
    record {
      count = subst (λ (vs : List ViewParts). 0 < length vs → length vs ≡ length c.open_views.result.now) (sym before)
          (count_taken turn input old (length r.past) c.open_views.result.now known.before (now ∙ open_views-in turn input r c.requires.made));
      table = subst HaveOneTable (sym now) (open_table turn input r c.requires.made);
      old_table = subst HaveOneTable (sym before) (table_before turn input old (length r.past) known.before);
    }

pub returns-clause-limits : goal.returns-clause-limits
returns-clause-limits g c = c.open_views.ensures.limits (open_phase c.args.tape.now.phase c.requires.open)

-- what is recorded are the turns of the views, of which there are some
recorded_are : {T : Type 0} (now : T → List OutcomeParts) (turn : ViewParts → OutcomeParts) (o : Option T) (os : List OutcomeParts) (vs : List ViewParts) → IfSome o (λ x. now x ≡ os) → IfSome o (λ x. AreDeliverable (now x)) → os ≡ map turn vs → IfSome o (λ x. (0 < length vs) × (now x ≡ map turn vs))
recorded_are now turn None os vs is some turns = tt
recorded_are now turn (Some x) os vs is some turns = let all = is ∙ turns in (omega (arith, some.some, ap (λ (us : List OutcomeParts). length us) all, length-map vs turn), all)

none_recorded : {T : Type 0} (turn : ViewParts → OutcomeParts) (o : Option T) (os : List OutcomeParts) (vs : List ViewParts) → IfNone o (os ≡ []) → os ≡ map turn vs → IfNone o (vs ≡ [])
none_recorded turn None os vs is turns = nothing vs (sym (length-map vs turn) ∙ ap (λ (us : List OutcomeParts). length us) (sym turns ∙ is))
none_recorded turn (Some x) os vs is turns = tt

pub returns-clause-recorded : goal.returns-clause-recorded
returns-clause-recorded g c =
    let turn = turn_by g.P.Program c.args.given.now.program in
    let before = ap (λ (m : Making _). m.before) c.given.view_is in
    let turns = turns_before turn c.args.given.now.input c.args.given.now.before c.step-step.result (returns-clause-given g c).before in
    recorded_are (λ o. o.now) turn c.outcomes_before-2.result _ c.views_before.result c.outcomes_before-2.ensures.some c.outcomes_before-2.ensures.deliverable
    (ap (λ (o : Option Run). outcomes_before o c.step-step.result) before ∙ turns ∙ ap (map turn) (sym (c.views_before.ensures ∙ ap (λ (o : Option Run). views_before o c.step-step.result) before)))

pub returns-clause-none : goal.returns-clause-none
returns-clause-none g c =
    let turn = turn_by g.P.Program c.args.given.now.program in
    let before = ap (λ (m : Making _). m.before) c.given.view_is in
    let turns = turns_before turn c.args.given.now.input c.args.given.now.before c.step-step.result (returns-clause-given g c).before in
    none_recorded turn c.outcomes_before-2.result _ c.views_before.result c.outcomes_before-2.ensures.none
    (ap (λ (o : Option Run). outcomes_before o c.step-step.result) before ∙ turns ∙ ap (map turn) (sym (c.views_before.ensures ∙ ap (λ (o : Option Run). views_before o c.step-step.result) before)))
