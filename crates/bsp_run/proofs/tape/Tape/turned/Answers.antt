use Rattle.std.proofs.Common.{◌≡◌, ◌∙◌, ap, sym, subst}
use Rattle.bsp_run.specs.Inside.Settings.{HaveTurns}
use Rattle.bsp_run.specs.Run.{Run, open_views, after_turns, phase_after}
use Rattle.bsp_run.specs.Inside.Tape.{run_of}
use Rattle.bsp_run.specs.Condition.{AreOutcomesOf, IsRun}
use Rattle.bsp_run.proofs.Phases.{turned_is_run}
use Rattle.bsp_run.proofs.tape.Tape.turned.Goals as goal

pub end-requires : goal.end-requires
end-requires c =
    let r : Run = run_of c.self.inside in
    let turns : AreOutcomesOf (open_views r) c.args.outcomes = subst (λ (x : Run). AreOutcomesOf (open_views x) c.args.outcomes) (sym c.self.view_is) c.requires.turns in
    record { turns = (r, record { run = c.self.invariant.run; phase = ap (λ (x : Run). x.phase) c.self.view_is ∙ c.requires.open; views = c.deref.ensures ∙ c.self.invariant.views; turns = turns }) }

have_turns : (c : goal.Joined-self-phase_after) → HaveTurns (run_of c.self.inside) c.deref.result.now c.args.outcomes
have_turns c =
    let r : Run = run_of c.self.inside in
    record {
      run = c.self.invariant.run;
      phase = ap (λ (x : Run). x.phase) c.self.view_is ∙ c.requires.open;
      views = c.deref.ensures ∙ c.self.invariant.views;
      turns = subst (λ (x : Run). AreOutcomesOf (open_views x) c.args.outcomes) (sym c.self.view_is) c.requires.turns;
    }

-- the fields make the run after these turns
is_after : (c : goal.Joined-self-phase_after) → run_of (record c.self.inside { outcomes = c.args.outcomes; phase = c.phase_after.result }) ≡ after_turns (run_of c.self.inside) c.args.outcomes
unfolding after_turns
is_after c =
    let r : Run = run_of c.self.inside in
    let phase = c.phase_after.ensures ∙ ap phase_after (c.in_ok-end.ensures r (have_turns c)) in
    λ i. record r { outcomes = c.args.outcomes; phase = phase i }

pub invariant_of-self : goal.invariant_of-self
invariant_of-self c =
    let r : Run = run_of c.self.inside in
    let have = have_turns c in
    record {
      views = c.self.invariant.views;
      costs = c.self.invariant.costs;
      small = c.self.invariant.small;
      run = subst IsRun (sym (is_after c)) (turned_is_run r c.args.outcomes c.self.invariant.run have.phase have.turns);
    }

pub returns-clause-ok : goal.returns-clause-ok
returns-clause-ok c = is_after c ∙ ap (λ (x : Run). after_turns x c.args.outcomes) c.self.view_is
