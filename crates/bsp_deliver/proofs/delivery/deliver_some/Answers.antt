use Rattle.std.proofs.Common.{ℕ, List}
use Rattle.std.proofs.lemmas.Result.{on_ok_weaker}
use Rattle.bsp_model.specs.declared.request.Message.{Message}
use Rattle.bsp_deliver.specs.Delivery.{delivery_parts, next_memory, next_queue}
use Rattle.bsp_deliver.proofs.BothOk.{on_both_ok}
use Rattle.bsp_deliver.proofs.CellsOf.{cells_of-maps}
use Rattle.bsp_deliver.proofs.delivery.deliver_some.Goals as goal

pub returns : goal.returns
returns c =
    let os = c.args.outcomes.now in
    let N : ℕ → List ℕ = λ d. next_memory (delivery_parts os d) in
    let Q : ℕ → List Message = λ d. next_queue (delivery_parts os d) in
    on_ok_weaker c.and.result
    (λ both. cells_of-maps N Q c.args.processes.now c.memories_after-memories.new.memories c.queues_after.new.queues both.0 both.1)
    (on_both_ok _ _ c.memories_after-memories.result c.queues_after.result c.and.result c.and.ensures c.memories_after-memories.ensures c.queues_after.ensures)
