use Rattle.std.proofs.Common.{◌≡◌, ◌∙◌, Bor, Option, Some, ap, length, subst, sym}
use Rattle.std.specs.Prelude.{option_map}
use Rattle.bsp_run.specs.Run.{Run}
use Rattle.bsp_incr.specs.Inside.Alike.{AllCostAlike}
use Rattle.bsp_incr.specs.Inside.Before.{delivered_outcomes}
use Rattle.bsp_incr.specs.Inside.Given.{Making}
use Rattle.bsp_incr.proofs.Likeness.{same_work, same_h}
use Rattle.bsp_incr.proofs.superstep.ending.cost.Given.{Over}
use Rattle.bsp_incr.proofs.superstep.ending.cost.Goals as goal
use Rattle.bsp_incr.proofs.superstep.ending.cost.Goals.{Then-is_same}

all_alike : (g : Over) (c : Then-is_same g) → AllCostAlike (delivered_outcomes (Some c.in-Some.history.now) (length c.args.tape.now.past)) c.args.tape.now.outcomes
all_alike g c =
    let r : Run = c.args.tape.now in
    let is : option_map (λ (h : Bor Run). h.now) c.given.inside.old ≡ Some c.in-Some.history.now = ap (option_map (λ (h : Bor Run). h.now)) c.in-Some.is in
    subst (λ (o : Option Run). AllCostAlike (delivered_outcomes o (length r.past)) r.outcomes) (sym (ap (λ (m : Making _). m.before) c.given.view_is) ∙ is) (c.requires.same c.if-is_same.true)

pub cost_like-requires-clause-work : goal.cost_like-requires-clause-work
cost_like-requires-clause-work g c = same_work _ c.args.tape.now.outcomes (all_alike g c)

pub cost_like-requires-clause-moved : goal.cost_like-requires-clause-moved
cost_like-requires-clause-moved g c = same_h _ c.args.tape.now.outcomes (all_alike g c)
