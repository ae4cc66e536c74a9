use Rattle.std.proofs.Common.{◌≡◌, ◌<◌, ◌∙◌, arith, Option, List, ap, sym, subst, length}
use Rattle.bsp_step.specs.ViewParts.{ViewParts}
use Rattle.bsp_run.specs.Run.{Run}
use Rattle.bsp_run.specs.TurnBy.{turn_by}
use Rattle.bsp_incr.specs.Exact.{delivered_before}
use Rattle.bsp_incr.specs.Inside.Given.{Making, IsMaking}
use Rattle.bsp_incr.specs.Inside.Before.{delivered_outcomes, views_after}
use Rattle.bsp_incr.proofs.Carrying.{cells_of_none}
use Rattle.bsp_incr.proofs.RunBefore.{count_after, delivered_before_is}
use Rattle.bsp_incr.proofs.superstep.ending.open_next.Goals as goal

pub next_views_like-requires-clause-next : goal.next_views_like-requires-clause-next
next_views_like-requires-clause-next g c κs within =
    let old : Option Run = c.args.given.now.before in
    c.in-Some.ensures.views ∙ ap (λ (m : Making _). views_after m.before c.step.result) c.given.view_is ∙ ap (views_after old) c.step.ensures

pub delivered-requires-clause-cells : goal.delivered-requires-clause-cells
delivered-requires-clause-cells g c =
    let old : Option Run = c.args.given.now.before in
    let r : Run = c.args.tape.now in
    let known = subst (IsMaking g.P.Program) c.given.view_is c.given.invariant in
    let next = delivered_before_is (turn_by g.P.Program c.args.given.now.program) c.args.given.now.input old (length r.past) known.before in
    let none = ap (λ (m : Making _). views_after m.before c.step.result) (sym c.given.view_is) ∙ c.in-None.ensures.none in
    let seen : length (views_after old (length r.past)) ≡ 0 = ap (λ n. length (views_after old n)) (sym c.step.ensures) ∙ ap (λ (vs : List ViewParts). length vs) none in
    cells_of_none (delivered_outcomes old (length r.past)) r.outcomes c.args.deliveries.processes.items c.args.deliveries.cells (sym next.count ∙ seen) c.requires.processes c.requires.cells

pub next_views_like-requires-clause-count : goal.next_views_like-requires-clause-count
next_views_like-requires-clause-count g c κs within =
    let making = c.args.given.now in
    let known = subst (IsMaking g.P.Program) c.given.view_is c.given.invariant in
    let before = ap (λ (m : Making _). m.before) c.given.view_is in
    let there : length c.args.tape.now.past < length (delivered_before making.before) = omega (arith, c.in-Some.ensures.there, c.step.ensures, ap (λ (o : Option Run). length (delivered_before o)) before) in
    ap (λ (vs : List ViewParts). length vs) (next_views_like-requires-clause-next g c κs within) ∙ count_after (turn_by g.P.Program making.program) making.input making.before (length c.args.tape.now.past) known.before there
