use Rattle.bsp_model.specs.Limits.{most_processes}
use Rattle.bsp_deliver.proofs.Gathered.{ArePlacedTo}
use Rattle.bsp_deliver.proofs.next_memories.places_of.Given as goal

-- the processes so far have their places
abbrev pub invariant-loop-place : goal.invariant-loop-place
invariant-loop-place l = ArePlacedTo most_processes l.place l.processes l.places
