use Rattle.std.proofs.Common.{◌≡◌, ◌∙◌, None, ap, sym, subst, length, List}
use Rattle.bsp_step.specs.OutcomeParts.{OutcomeParts}
use Rattle.bsp_run.specs.Ending.{end_of}
use Rattle.bsp_run.specs.Run.{Run, open_views, after_turns}
use Rattle.bsp_run.specs.Inside.Tape.{run_of}
use Rattle.bsp_run.specs.Condition.{AreOutcomesOf, IsRun}
use Rattle.bsp_run.proofs.Phases.{turned_is_run}
use Rattle.bsp_run.proofs.TakingOver.{turned_on}
use Rattle.bsp_run.proofs.tape.Tape.turned_to_deliver.Goals as goal

pub invariant_of-self : goal.invariant_of-self
invariant_of-self c =
    let r : Run = run_of c.self.inside in
    let os : List OutcomeParts = c.args.outcomes in
    let after = turned_on r os (subst (λ (x : Run). end_of (length x.past) x.state.table os ≡ None) (sym c.self.view_is) c.requires.delivers) in
    let turns : AreOutcomesOf (open_views r) os = subst (λ (x : Run). AreOutcomesOf (open_views x) os) (sym c.self.view_is) c.requires.turns in
    record {
      views = c.self.invariant.views;
      costs = c.self.invariant.costs;
      small = c.self.invariant.small;
      run = subst IsRun (sym after) (turned_is_run r os c.self.invariant.run (ap (λ (x : Run). x.phase) c.self.view_is ∙ c.requires.open) turns);
    }

pub returns : goal.returns
returns c =
    let r : Run = run_of c.self.inside in
    let os : List OutcomeParts = c.args.outcomes in
    turned_on r os (subst (λ (x : Run). end_of (length x.past) x.state.table os ≡ None) (sym c.self.view_is) c.requires.delivers)
    ∙ ap (λ (x : Run). after_turns x os) c.self.view_is
