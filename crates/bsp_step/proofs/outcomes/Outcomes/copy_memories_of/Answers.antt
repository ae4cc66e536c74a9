use Rattle.std.proofs.Common.{◌≡◌, ℕ, List, sym, subst, ◌∙◌}
use Rattle.std.specs.Prelude.{OnOk}
use Rattle.bsp_model.proofs.Replaced.{map-all_places}
use Rattle.bsp_step.specs.OutcomeParts.{OutcomeParts, no_outcome}
use Rattle.bsp_step.proofs.outcomes.Outcomes.copy_memories_of.Goals as goal

pub returns-then-processes-len : goal.returns-then-processes-len
returns-then-processes-len c =
    subst (λ (ms : List (List ℕ)). OnOk c.copy_memories.result (c.copy_memories.new.memories ≡ ms))
    (sym (map-all_places (λ (o : OutcomeParts). o.memory) c.args.self.now no_outcome c.args.processes.now c.requires.known c.requires.ascending (sym (c.if-processes-len.true ∙ c.len.ensures))))
    c.copy_memories.ensures
