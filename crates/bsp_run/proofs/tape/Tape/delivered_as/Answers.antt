use Rattle.std.proofs.Common.{◌≡◌, ◌+◌, ◌∙◌, All, ap, sym, subst, length, arith}
use Rattle.std.proofs.lemmas.List.Elements.{All-push}
use Rattle.bsp_run.specs.Run.{Run, open_views, after_delivery}
use Rattle.bsp_run.specs.Setting.{next_views}
use Rattle.bsp_run.specs.Inside.Tape.{run_of}
use Rattle.bsp_run.specs.Result.{cost_of_delivery, IsSmall}
use Rattle.bsp_run.specs.Condition.{IsRun}
use Rattle.bsp_run.proofs.KeptCosts.{costs_kept}
use Rattle.bsp_run.proofs.Phases.{next_is_run}
use Rattle.bsp_run.proofs.SeenRuns.{delivered_is, views_then}
use Rattle.bsp_run.proofs.tape.Tape.delivered_as.Goals as goal
use Rattle.bsp_run.proofs.tape.Tape.delivered_as.Goals.{Joined-self-phase_at}

next_run : (c : Joined-self-phase_at) → IsRun (after_delivery (run_of c.self.inside))
next_run c = next_is_run (run_of c.self.inside) c.self.invariant.run (ap (λ (x : Run). x.phase) c.self.view_is ∙ c.requires.turned)

-- the kept views are the next ones, in the words of the fields
kept_views : (c : Joined-self-phase_at) → c.keep_superstep.new.views ≡ next_views (run_of c.self.inside)
kept_views c = c.in_ok-keep_superstep.ensures.views ∙ c.in_ok-views.ensures ∙ c.requires.views ∙ ap next_views (sym c.self.view_is)

-- the fields make the run after its delivery
is_after : (c : Joined-self-phase_at)
    → run_of (record c.self.inside { past = c.keep_superstep.new.past; costs = c.keep_superstep.new.costs; views = c.keep_superstep.new.views; outcomes = c.keep_superstep.new.outcomes; phase = c.phase_at.result }) ≡ after_delivery (run_of c.self.inside)
is_after c =
    let r : Run = run_of c.self.inside in
    let steps : c.len.result + 1 ≡ length r.past + 1 = omega (arith, c.len.ensures, c.self.inside.past.ok.0) in
    delivered_is r c.keep_superstep.new.past.items c.self.inside.views c.keep_superstep.new.views c.keep_superstep.new.outcomes (c.len.result + 1) c.phase_at.result
    (next_run c) c.self.invariant.views c.in_ok-keep_superstep.ensures.past c.in_ok-keep_superstep.ensures.outcomes (kept_views c) steps c.phase_at.ensures

pub invariant_of-self-2 : goal.invariant_of-self-2
invariant_of-self-2 c =
    let r : Run = run_of c.self.inside in
    let row = c.requires.row ∙ sym (ap (λ (x : Run). cost_of_delivery x.g x.l x.outcomes) c.self.view_is) in
    record {
      views = views_then r c.keep_superstep.new.views (kept_views c) ∙ ap open_views (sym (is_after c));
      run = subst IsRun (sym (is_after c)) (next_run c);
      costs = costs_kept r.g r.l r.past c.keep_superstep.new.past.items c.self.inside.views r.outcomes c.self.inside.costs.items c.keep_superstep.new.costs.items c.args.row c.self.invariant.costs c.in_ok-keep_superstep.ensures.past c.in_ok-keep_superstep.ensures.costs row;
      small = subst (All IsSmall) (sym c.in_ok-keep_superstep.ensures.costs) (All-push IsSmall c.self.inside.costs.items c.args.row c.self.invariant.small c.requires.small);
    }

pub returns-clause-ok : goal.returns-clause-ok
returns-clause-ok c = is_after c.before ∙ ap after_delivery c.self.view_is
