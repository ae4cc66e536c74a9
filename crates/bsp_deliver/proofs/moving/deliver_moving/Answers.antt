use Rattle.std.proofs.Common.{ℕ, List}
use Rattle.std.proofs.lemmas.Result.{on_ok_weaker}
use Rattle.bsp_model.specs.declared.request.Message.{Message}
use Rattle.bsp_deliver.specs.Delivery.{delivery_parts, next_memory, next_queue}
use Rattle.bsp_deliver.proofs.AllProcesses.{can_deliver_all}
use Rattle.bsp_deliver.proofs.CellsOf.{cells_of-maps}
use Rattle.bsp_deliver.proofs.moving.deliver_moving.Goals as goal

pub returns : goal.returns
returns c =
    let os = c.args.outcomes.now in
    let N : ℕ → List ℕ = λ d. next_memory (delivery_parts os d) in
    let Q : ℕ → List Message = λ d. next_queue (delivery_parts os d) in
    on_ok_weaker c.move_memories.result
    (λ moved. cells_of-maps N Q c.args.processes.now c.move_memories.new.memories c.queues_after.new.queues moved c.in_ok-queues_after.ensures) c.move_memories.ensures

pub deliver_some-requires : goal.deliver_some-requires
deliver_some-requires c = can_deliver_all c.args.outcomes.now c.args.processes.now c.requires.deliverable c.requires.processes

pub queues_after-requires-clause-known : goal.queues_after-requires-clause-known
queues_after-requires-clause-known c = (can_deliver_all c.args.outcomes.now c.args.processes.now c.requires.deliverable c.requires.processes).known
