use Rattle.std.proofs.Common.{◌≡◌, ◌+◌, ◌*◌, ◌<◌, ◌≤◌, ◌∙◌, Bor, List, Some, cond, ap, arith, length, sym}
use Rattle.std.specs.Prelude.{option_map}
use Rattle.bsp_model.specs.declared.cost.CostRow.{CostRow}
use Rattle.bsp_run.specs.declared.superstep.Superstep.{Superstep}
use Rattle.bsp_run.specs.Run.{Run}
use Rattle.bsp_causes.specs.declared.travel.Redone.{Redone}
use Rattle.bsp_causes.specs.Inside.Walk.{processes_of}
use Rattle.bsp_causes.specs.UpdateCost.{work_of, outcomes_at}
use Rattle.bsp_causes.proofs.Synchronised.{IsRowAt, h_is, synchronised_is, row_is, end_is}
use Rattle.bsp_causes.proofs.Travelling.{bounded}
use Rattle.bsp_causes.proofs.costs.row_again.Goals as goal

pub l_again-l-requires-clause-after : goal.l_again-l-requires-clause-after
l_again-l-requires-clause-after c = bounded c.outcomes_there-after.result.now c.outcomes_there-after.ensures.deliverable

pub returns-then-step-delivered_steps-clause-value : goal.returns-then-step-delivered_steps-clause-value
returns-then-step-delivered_steps-clause-value c =
    let new = c.args.new.now in
    let ts = processes_of c.args.turned.now in
    let past : length new.past ≤ c.args.step = omega (arith, c.if-step-delivered_steps.true, ap (λ (ss : List Superstep). length ss) c.past-delivered_steps.ensures.past) in
    end_is (option_map (λ (h : Bor Run). h.now) c.args.old) new c.args.step ts (processes_of c.args.delivered.now) c.work_of-work.result past (c.work_of-work.ensures.value ∙ ap (work_of ts) c.outcomes_there-after.ensures.value)

pub returns-clause-value : goal.returns-clause-value
returns-clause-value c =
    let old = option_map (λ (h : Bor Run). h.now) c.args.old in
    let new = c.args.new.now in
    let s = c.args.step in
    let ts = processes_of c.args.turned.now in
    let ds = processes_of c.args.delivered.now in
    let before = c.outcomes_if_any-before.result.now in
    let after = c.outcomes_there-after.result.now in
    let redone : Redone = record { turned = c.set_of.result; delivered = c.set_of-2.result } in
    let at : IsRowAt old new s ts ds redone before after = record {
      sets = record { turned = c.set_of.ensures; delivered = c.set_of-2.ensures };
      before = c.outcomes_if_any-before.ensures.value;
      after = c.outcomes_there-after.ensures.value;
      bounded_before = c.outcomes_if_any-before.ensures.bounded;
      bounded_after = bounded after c.outcomes_there-after.ensures.deliverable;
    } in
    let inside : s < length new.past = omega (arith, c.if-step-delivered_steps.false, ap (λ (ss : List Superstep). length ss) c.past-delivered_steps.ensures.past) in
    let w = c.work_of-work.result in
    let h = c.h_again-h.result in
    let l = c.l_again-l.result in
    let paid = synchronised_is old new s ts ds redone before after c.views_after-olds.result c.views_after-news.result at c.views_after-olds.ensures c.views_after-news.ensures in
    ap (λ g. record { work = w; h = h; cost = w + h * g + l }) c.prices-g.ensures.g
    ∙ row_is old new s ts ds w h l inside (c.work_of-work.ensures.value ∙ ap (work_of ts) c.outcomes_there-after.ensures.value)
    (c.h_again-h.ensures.value ∙ h_is old new s ts ds redone before after at)
    (c.l_again-l.ensures.value ∙ (λ i. cond (paid i) (c.prices-g.ensures.l i) 0))
