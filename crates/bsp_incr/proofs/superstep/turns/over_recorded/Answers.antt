use Rattle.std.proofs.Common.{◌≡◌, ◌∙◌, IfOk, List, ap, get_or, length, subst, false, sym}
use Rattle.std.proofs.lemmas.List.{length-map}
use Rattle.bsp_model.specs.Replaced.{IsAscending}
use Rattle.bsp_step.specs.OutcomeParts.{OutcomeParts}
use Rattle.bsp_run.specs.Shares.{turns_of}
use Rattle.bsp_run.specs.TurnBy.{turn_by}
use Rattle.bsp_incr.proofs.Gathering.{processes_where-ascending}
use Rattle.bsp_incr.proofs.Members.{members_known}
use Rattle.bsp_incr.proofs.Retaking.{turns_in_place}
use Rattle.bsp_incr.proofs.superstep.turns.over_recorded.Goals as goal

pub replaced-requires-clause-ascending : goal.replaced-requires-clause-ascending
replaced-requires-clause-ascending g c =
    subst IsAscending (sym c.requires.processes) (processes_where-ascending (length c.args.dirty.now) (λ p. get_or c.args.dirty.now p false))

pub replaced-requires-clause-known : goal.replaced-requires-clause-known
replaced-requires-clause-known g c =
    let superstep = c.args.superstep.now in
    let long = ap (λ (os : List OutcomeParts). length os) c.requires.recorded ∙ length-map superstep.old_views (turn_by g.P.Program c.args.given.now.program) ∙ superstep.count c.requires.some in
    members_known c.args.dirty.now (length c.args.old_outcomes.now) c.args.processes.items (c.requires.dirty.count ∙ sym long) c.requires.processes

pub returns : goal.returns
returns g c =
    let superstep = c.args.superstep.now in
    let turn = turn_by g.P.Program c.args.given.now.program in
    subst (λ (os : List OutcomeParts). IfOk c.replaced.result (λ o. o ≡ os))
    (turns_in_place turn superstep.old_views superstep.views.now c.args.dirty.now c.args.old_outcomes.now c.args.new c.args.processes.items c.requires.dirty (superstep.count c.requires.some) c.requires.recorded c.requires.processes
    (c.requires.turns ∙ ap (turns_of turn superstep.views.now) (sym c.requires.processes)))
    c.replaced.ensures
