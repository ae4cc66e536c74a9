use Rattle.std.proofs.Common.{◌≡◌, take, map}
use Rattle.bsp_deliver.specs.Delivery.{get_write, delivery_parts}
use Rattle.bsp_deliver.specs.Inside.Gathering.{overlay}
use Rattle.bsp_deliver.proofs.next_memories.load_memories.Given as goal

abbrev pub invariant-loop-process : goal.invariant-loop-process
invariant-loop-process l = l.memories ≡ map (λ d. overlay (delivery_parts l.outcomes d).memory (map get_write (delivery_parts l.outcomes d).gets)) (take l.process-index l.processes)
