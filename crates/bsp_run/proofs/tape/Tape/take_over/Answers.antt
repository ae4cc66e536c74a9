use Rattle.std.proofs.Common.{◌≡◌, ◌<◌, ◌+◌, ◌∙◌, ℕ, List, [], ◌∷◌, ◌++◌, All, None, ap, sym, subst, length, arith}
use Rattle.std.proofs.lemmas.List.Elements.{All-push}
use Rattle.bsp_step.specs.ViewParts.{ViewParts}
use Rattle.bsp_run.specs.declared.superstep.Superstep.{Superstep}
use Rattle.bsp_run.specs.Ending.{end_of}
use Rattle.bsp_run.specs.State.{next_state, views_of}
use Rattle.bsp_run.specs.Run.{Run, open_views, after_turns, after_delivery}
use Rattle.bsp_run.specs.Result.{cost_of_delivery, IsSmall}
use Rattle.bsp_run.specs.Condition.{IsRun, AreOutcomesOf}
use Rattle.bsp_run.specs.Supersteps.{superstep_at, supersteps_opened}
use Rattle.bsp_run.specs.TakingOver.{outcomes_there}
use Rattle.bsp_run.specs.Inside.Tape.{run_of, args_in, state_in}
use Rattle.bsp_run.proofs.KeptCosts.{costs_kept}
use Rattle.bsp_run.proofs.TakingOver.{AreTaken, taken_is_run, taken_over, taken_views, no_outcomes, superstep_is, row_is, row_for_each}
use Rattle.bsp_run.proofs.tape.Tape.take_over.Goals as goal

-- the list of the next views, in the words of the fields
next_is : (r now other : Run) (step : ℕ) (views : List ViewParts) → r ≡ now → step ≡ length r.past → views ≡ (superstep_at (supersteps_opened other) (step + 1)).views
    → (superstep_at (supersteps_opened other) (length now.past + 1)).views ≡ views_of now.args (length now.past + 1) (next_state now.state (outcomes_there other now)) → views ≡ views_of r.args (length r.past + 1) (next_state r.state (outcomes_there other r))
next_is r now other step views same steps is next =
    is ∙ ap (λ n. (superstep_at (supersteps_opened other) (n + 1)).views) steps
    ∙ subst (λ (x : Run). (superstep_at (supersteps_opened other) (length x.past + 1)).views ≡ views_of x.args (length x.past + 1) (next_state x.state (outcomes_there other x))) (sym same) next

pub cost_at-row-requires-clause-small_row : goal.cost_at-row-requires-clause-small_row
cost_at-row-requires-clause-small_row c =
    let r : Run = run_of c.self.inside in
    let other = c.args.other.now in
    let steps : c.len-step.result ≡ length r.past = omega (arith, c.len-step.ensures, c.self.inside.past.ok.0) in
    let past : length r.past < length other.past = subst (λ (x : Run). length x.past < length other.past) (sym c.self.view_is) c.requires.past in
    let there : length c.run.inside.past.items ≡ length other.past = ap (λ (x : Run). length x.past) (c.run.view_is ∙ c.other.view_is) in
    let rows = row_for_each c.run.inside.past.items c.run.inside.costs.items c.run.inside.g c.run.inside.l c.run.invariant.costs in
    subst IsSmall (sym c.index-2.ensures) (c.run.invariant.small c.len-step.result c.index-2.result.now (omega (arith, steps, past, there, rows)))

taken : (c : goal.After-drop-outcomes-2) → AreTaken (run_of c.self.inside) (outcomes_there c.args.other.now (run_of c.self.inside)) c.keep_superstep.new.past.items c.keep_superstep.new.views (c.len-step.result + 1) c.phase_at.result
taken c =
    let r : Run = run_of c.self.inside in
    let other = c.args.other.now in
    let steps : c.len-step.result ≡ length r.past = omega (arith, c.len-step.ensures, c.self.inside.past.ok.0) in
    let same = c.run.view_is ∙ c.other.view_is in
    let past : length r.past < length other.past = subst (λ (x : Run). length x.past < length other.past) (sym c.self.view_is) c.requires.past in
    let outcomes = c.in_ok-outcomes.ensures ∙ ap (λ (x : Superstep). x.outcomes) (superstep_is c.run.inside.past.items other.past c.len-step.result (length r.past) c.index.result.now (ap (λ (x : Run). x.past) same) steps past c.index.ensures) in
    let views = next_is r c.args.self.now other c.len-step.result c.in_ok-views.views c.self.view_is steps c.in_ok-views.ensures c.requires.next in
    let turns = subst (λ (x : Run). AreOutcomesOf (open_views x) (outcomes_there other x)) (sym c.self.view_is) c.requires.turns in
    record {
      before = ap (λ (x : Run). x.phase) c.self.view_is ∙ c.requires.started;
      turns = turns;
      delivers = subst (λ (x : Run). end_of (length x.past) x.state.table (outcomes_there other x) ≡ None) (sym c.self.view_is) c.requires.delivers;
      past = c.in_ok-keep_superstep.ensures.past ∙ (λ i. r.past ++ record { views = c.self.invariant.views i; outcomes = outcomes i } ∷ []);
      next = c.in_ok-keep_superstep.ensures.views ∙ views;
      steps = omega (arith, steps);
      phase = c.phase_at.ensures;
    }

-- the fields make the run after the superstep
is_after : (c : goal.After-drop-outcomes-2)
    → run_of (record c.self.inside { past = c.keep_superstep.new.past; costs = c.keep_superstep.new.costs; views = c.keep_superstep.new.views; phase = c.phase_at.result })
    ≡ after_delivery (after_turns (run_of c.self.inside) (outcomes_there c.args.other.now (run_of c.self.inside)))
is_after c =
    let r : Run = run_of c.self.inside in
    let all = c.keep_superstep.new.past.items in
    let views = c.keep_superstep.new.views in
    let none = no_outcomes r c.self.invariant.run (taken c).before in
    (λ i. record { args = args_in views; limit = r.limit; g = r.g; l = r.l; past = all; state = state_in views; outcomes = none i; phase = c.phase_at.result })
    ∙ taken_over r (outcomes_there c.args.other.now r) all views (c.len-step.result + 1) c.phase_at.result c.self.invariant.run (taken c)

row_of : (c : goal.After-drop-outcomes-2) → c.cost_at-row.result ≡ cost_of_delivery c.self.inside.g c.self.inside.l (outcomes_there c.args.other.now (run_of c.self.inside))
row_of c =
    let r : Run = run_of c.self.inside in
    let other = c.args.other.now in
    let steps : c.len-step.result ≡ length r.past = omega (arith, c.len-step.ensures, c.self.inside.past.ok.0) in
    let past : length r.past < length other.past = subst (λ (x : Run). length x.past < length other.past) (sym c.self.view_is) c.requires.past in
    let same : c.run.inside.past.items ≡ other.past = ap (λ (x : Run). x.past) (c.run.view_is ∙ c.other.view_is) in
    c.cost_at-row.ensures.value
    ∙ row_is c.run.inside.past.items c.run.inside.costs.items r.g r.l c.run.inside.g c.run.inside.l c.len-step.result c.index-2.result.now c.run.invariant.costs (omega (arith, steps, past, ap (λ (xs : List Superstep). length xs) same)) c.index-2.ensures
    ∙ ap (λ (xs : List Superstep). cost_of_delivery r.g r.l (superstep_at xs c.len-step.result).outcomes) same
    ∙ ap (λ n. cost_of_delivery r.g r.l (superstep_at other.past n).outcomes) steps

pub invariant_of-self-2 : goal.invariant_of-self-2
invariant_of-self-2 c =
    let r : Run = run_of c.self.inside in
    let os = outcomes_there c.args.other.now r in
    record {
      views = taken_views r os c.keep_superstep.new.views (taken c).next ∙ ap open_views (sym (is_after c));
      run = subst IsRun (sym (is_after c)) (taken_is_run r os c.self.invariant.run (taken c).before (taken c).turns (taken c).delivers);
      costs = costs_kept r.g r.l r.past c.keep_superstep.new.past.items (open_views r) os c.self.inside.costs.items c.keep_superstep.new.costs.items c.cost_at-row.result c.self.invariant.costs (taken c).past c.in_ok-keep_superstep.ensures.costs (row_of c);
      small = subst (All IsSmall) (sym c.in_ok-keep_superstep.ensures.costs) (All-push IsSmall c.self.inside.costs.items c.cost_at-row.result c.self.invariant.small c.cost_at-row.ensures.small);
    }

pub returns-clause-ok : goal.returns-clause-ok
returns-clause-ok c = is_after c ∙ ap (λ (x : Run). after_delivery (after_turns x (outcomes_there c.args.other.now x))) c.self.view_is
