use Rattle.std.proofs.Common.{◌≡◌, ◌+◌, ◌-◌, ◌∙◌, ℕ, List, [], length, ap, sym, inl, inr, arith}
use Rattle.std.proofs.lemmas.Result.{on_ok_weaker}
use Rattle.std.proofs.lemmas.Bool.{cases_lt}
use Rattle.std.proofs.lemmas.List.{get_or_past}
use Rattle.bsp_model.specs.Columns.{row_at, AreTaken}
use Rattle.bsp_step.specs.OutcomeParts.{OutcomeParts, outcome_of, no_outcome}
use Rattle.bsp_step.specs.declared.lists.Lists.{Lists}
use Rattle.bsp_step.specs.declared.lists.TurnEnd.{TurnEnd}
use Rattle.bsp_step.specs.Inside.Outcomes.{outcomes_of}
use Rattle.bsp_step.proofs.OutcomeColumns.{length-outcomes_of, outcome-outcomes_of}
use Rattle.bsp_step.proofs.outcome_rows.OutcomeRows.copy_lines.Goals as goal

-- the rows that are taken are the lines of the outcomes
lines_of_all : (ends : List TurnEnd) (memories : List (List ℕ)) (lists l : Lists) (now : List OutcomeParts) (n : ℕ) (old new : List (List (List ℕ))) → outcomes_of ends memories lists ≡ now → l ≡ lists → n ≡ length now
    → AreTaken [] (row_at old) 0 (row_at l.lines) 0 n (row_at new) → (p : ℕ) → row_at new p ≡ (outcome_of now p).lines
lines_of_all ends memories lists l now n old new is same many taken p =
    let count : n ≡ length ends = omega (arith, many, ap length is, length-outcomes_of ends memories lists) in
    elim (cases_lt p (length ends)) [
      | inl here ↦
          let at : 0 + (p - 0) ≡ p = omega arith in
          taken.taken p (omega arith) (omega (arith, here, count))
          ∙ ap (row_at l.lines) at
          ∙ ap (λ (ls : Lists). row_at ls.lines p) same
          ∙ sym (ap (λ (o : OutcomeParts). o.lines) (outcome-outcomes_of ends memories lists p no_outcome here))
          ∙ ap (λ (os : List OutcomeParts). (outcome_of os p).lines) is
      | inr past ↦
          taken.behind p (omega arith) (omega (arith, past, count))
          ∙ sym (ap (λ (o : OutcomeParts). o.lines) (get_or_past (outcomes_of ends memories lists) p no_outcome (omega (arith, past, length-outcomes_of ends memories lists))))
          ∙ ap (λ (os : List OutcomeParts). (outcome_of os p).lines) is
    ]

pub returns : goal.returns
returns c =
    let r = c.self.inside in
    on_ok_weaker c.take_range.result
    (lines_of_all r.ends.items r.memories r.lists.value c.deref-lists.result.now c.args.self.now c.len.result c.args.lines.now c.take_range.new.self c.self.view_is c.deref-lists.ensures c.len.ensures)
    c.take_range.ensures.ok
