use Rattle.std.proofs.Common.{◌≡◌, ℕ, Bool, List, length, sym, subst, inl, inr, arith}
use Rattle.std.proofs.lemmas.Bool.{cases_lt}
use Rattle.std.proofs.lemmas.List.{get_or_past}
use Rattle.bsp_model.specs.Columns.{row_at}
use Rattle.bsp_model.specs.PutsTo.{AreToNone}
use Rattle.bsp_step.specs.OutcomeParts.{OutcomeParts, outcome_of, no_outcome}
use Rattle.bsp_step.specs.declared.lists.Lists.{Lists}
use Rattle.bsp_step.specs.declared.lists.TurnEnd.{TurnEnd}
use Rattle.bsp_step.specs.Inside.Outcomes.{outcomes_of}
use Rattle.bsp_step.proofs.OutcomeColumns.{length-outcomes_of, outcome-outcomes_of}
use Rattle.bsp_step.proofs.outcome_rows.OutcomeRows.next_putting_to.Goals as goal

-- what holds of the row of a process holds of the puts of its outcome
of_row : (targets : List Bool) (ends : List TurnEnd) (memories : List (List ℕ)) (lists l : Lists) (now : List OutcomeParts) (p : ℕ) → outcomes_of ends memories lists ≡ now → l ≡ lists
    → AreToNone targets (row_at l.puts p) → AreToNone targets (outcome_of now p).puts
of_row targets ends memories lists l now p is same none =
    subst (λ (os : List OutcomeParts). AreToNone targets (outcome_of os p).puts) is
    (elim (cases_lt p (length ends)) [
      | inl here ↦
          subst (λ (o : OutcomeParts). AreToNone targets o.puts) (sym (outcome-outcomes_of ends memories lists p no_outcome here)) (subst (λ (ls : Lists). AreToNone targets (row_at ls.puts p)) same none)
      | inr past ↦
          subst (λ (o : OutcomeParts). AreToNone targets o.puts) (sym (get_or_past (outcomes_of ends memories lists) p no_outcome (omega (arith, past, length-outcomes_of ends memories lists))))
          (λ k d within. absurd (omega (arith, within)))
    ])

pub returns-in-Some-clause-before : goal.returns-in-Some-clause-before
returns-in-Some-clause-before c p behind below =
    let r = c.self.inside in
    of_row c.args.targets.now r.ends.items r.memories r.lists.value c.deref-lists.result.now c.args.self.now p c.self.view_is c.deref-lists.ensures (c.in-Some.ensures.before p behind below)

pub returns-in-None-clause-before : goal.returns-in-None-clause-before
returns-in-None-clause-before c p behind below =
    let r = c.self.inside in
    of_row c.args.targets.now r.ends.items r.memories r.lists.value c.deref-lists.result.now c.args.self.now p c.self.view_is c.deref-lists.ensures (c.in-None.ensures.none p behind)
