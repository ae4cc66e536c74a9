use Rattle.std.proofs.Common.{◌<◌, ◌∙◌, Option, All, sym, subst, length}
use Rattle.bsp_model.specs.Replaced.{IsAscending}
use Rattle.bsp_run.specs.Run.{Run}
use Rattle.bsp_incr.specs.Inside.Changes.{is_touched}
use Rattle.bsp_run.specs.TurnBy.{turn_by}
use Rattle.bsp_incr.specs.Inside.Given.{IsMaking}
use Rattle.bsp_incr.specs.Inside.Marks.{AreDelivered}
use Rattle.bsp_incr.specs.Inside.Before.{delivered_outcomes}
use Rattle.bsp_incr.proofs.Carrying.{cells_in_place}
use Rattle.bsp_incr.proofs.Gathering.{listed_below, processes_where-ascending}
use Rattle.bsp_incr.proofs.RunBefore.{delivered_before_is}
use Rattle.bsp_incr.proofs.superstep.ending.next_views_like.Goals as goal

pub next_views_like-requires-clause-known : goal.next_views_like-requires-clause-known
next_views_like-requires-clause-known g c =
    let r : Run = c.args.tape.now in
    subst (λ n. All (λ p. p < n) c.args.deliveries.processes.items) (c.requires.many ∙ sym c.requires.count)
    (listed_below (length r.outcomes) (is_touched (delivered_outcomes c.args.given.now.before (length r.past)) r.outcomes) c.args.deliveries.processes.items c.requires.processes)

pub next_views_like-requires-clause-ascending : goal.next_views_like-requires-clause-ascending
next_views_like-requires-clause-ascending g c =
    let old : Option Run = c.args.given.now.before in
    let r : Run = c.args.tape.now in
    subst IsAscending (sym c.requires.processes) (processes_where-ascending (length r.outcomes) (is_touched (delivered_outcomes old (length r.past)) r.outcomes))

pub next_views_like-requires-clause-cells : goal.next_views_like-requires-clause-cells
next_views_like-requires-clause-cells g c =
    let old : Option Run = c.args.given.now.before in
    let r : Run = c.args.tape.now in
    let os = delivered_outcomes old (length r.past) in
    let views = c.args.old_next.now in
    let known = subst (IsMaking g.P.Program) c.given.view_is c.given.invariant in
    let next : AreDelivered os views = subst (AreDelivered os) (sym c.requires.next) (delivered_before_is (turn_by g.P.Program c.args.given.now.program) c.args.given.now.input old (length r.past) known.before) in
    cells_in_place os r.outcomes views c.args.deliveries.processes.items c.args.deliveries.cells next (sym next.count ∙ c.requires.count ∙ sym c.requires.many) c.requires.processes c.requires.cells
