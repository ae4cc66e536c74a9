use Rattle.std.proofs.Common.{length, map, sym, ap, ◌∙◌}
use Rattle.std.specs.List.{range_with_len}
use Rattle.std.proofs.lemmas.Simd.{map-map}
use Rattle.bsp_step.specs.OutcomeParts.{OutcomeParts}
use Rattle.bsp_step.specs.Inside.Outcomes.{outcome_at}
use Rattle.bsp_step.proofs.OutcomeColumns.{memories-outcomes_of}
use Rattle.bsp_step.proofs.outcome_rows.OutcomeRows.into_memories.Goals as goal

pub returns-clause-memories : goal.returns-clause-memories
returns-clause-memories c =
    let r = c.self.inside in
    sym (memories-outcomes_of r.ends.items r.memories r.lists.value c.self.invariant.count) ∙ ap (map (λ (o : OutcomeParts). o.memory)) c.self.view_is

pub returns-clause-puts : goal.returns-clause-puts
returns-clause-puts c =
    let r = c.self.inside in
    sym (map-map (λ (o : OutcomeParts). o.puts) (outcome_at r.ends.items r.memories r.lists.value) (range_with_len 0 (length r.ends.items)))
    ∙ ap (map (λ (o : OutcomeParts). o.puts)) c.self.view_is
