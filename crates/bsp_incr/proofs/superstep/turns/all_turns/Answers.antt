use Rattle.std.proofs.Common.{◌≡◌, ◌∙◌, [], Bor, IfNone, IfOk, List, Option, ap, length, subst}
use Rattle.bsp_model.specs.ProcessSet.{processes_in}
use Rattle.bsp_step.specs.ViewParts.{ViewParts}
use Rattle.bsp_step.specs.OutcomeParts.{OutcomeParts}
use Rattle.bsp_run.specs.TurnBy.{turn_by}
use Rattle.bsp_incr.specs.Inside.OpenSuperstep.{differs_now}
use Rattle.bsp_incr.proofs.Gathering.{processes_where-each_below}
use Rattle.bsp_incr.proofs.Retaking.{turns_of_none}
use Rattle.bsp_incr.proofs.superstep.turns.all_turns.Goals as goal

pub returns-in-None : goal.returns-in-None
returns-in-None g c =
    let superstep = c.args.superstep.now in
    let turn = turn_by g.P.Program c.args.given.now.program in
    let looks = g.P.Program.looks c.args.given.now.program in
    let none = subst (λ (o : Option (Bor (List OutcomeParts))). IfNone o (superstep.old_views ≡ [])) c.in-None.is c.requires.none in
    let needed = processes_where-each_below (length superstep.views.now) (differs_now looks superstep) c.args.needed.now c.requires.needed in
    let turns = turns_of_none turn looks superstep.old_views superstep.views.now (processes_in c.args.needed.now) c.args.taken (ap (λ (vs : List ViewParts). length vs) none) needed c.requires.turns in
    subst (λ (os : List OutcomeParts). IfOk c.share.result (λ all. all ≡ os)) turns c.share.ensures
