use Rattle.std.proofs.Common.{List, map, sym, ap, ◌∙◌}
use Rattle.bsp_step.specs.OutcomeParts.{OutcomeParts}
use Rattle.bsp_step.proofs.OutcomeColumns.{memories-outcomes_of}
use Rattle.bsp_step.proofs.outcome_rows.OutcomeRows.memories.Goals as goal

pub returns : goal.returns
returns c =
    let r = c.self.inside in
    sym (memories-outcomes_of r.ends.items r.memories r.lists.value c.self.invariant.count) ∙ ap (λ (os : List OutcomeParts). map (λ (o : OutcomeParts). o.memory) os) c.self.view_is
