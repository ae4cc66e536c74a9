use Rattle.std.proofs.Common.{◌≡◌, ℕ, List, All, [], subst}
use Rattle.std.specs.Prelude.{OnOk}
use Rattle.std.proofs.lemmas.Bool.{OnTrue_at}
use Rattle.bsp_step.specs.OutcomeParts.{OutcomeParts}
use Rattle.bsp_deliver.proofs.Gathered.{all_unread}
use Rattle.bsp_deliver.proofs.next_memories.load_memories.Goals as goal

pub returns-then-is_without : goal.returns-then-is_without
returns-then-is_without c =
    let os = c.args.outcomes.now in
    let none : All (λ (o : OutcomeParts). o.gets ≡ []) os = OnTrue_at c.if-is_without.true c.is_without.ensures in
    subst (λ (ms : List (List ℕ)). OnOk c.copy_memories_of.result (c.copy_memories_of.new.memories ≡ ms)) (all_unread os c.args.processes.now none c.requires.known) c.copy_memories_of.ensures
