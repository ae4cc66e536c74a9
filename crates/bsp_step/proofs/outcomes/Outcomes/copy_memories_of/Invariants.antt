use Rattle.std.proofs.Common.{◌≡◌, map, take}
use Rattle.bsp_step.specs.OutcomeParts.{outcome_of}
use Rattle.bsp_step.proofs.outcomes.Outcomes.copy_memories_of.Given as goal

-- the memories of the processes so far are added
abbrev pub invariant-loop-process : goal.invariant-loop-process
invariant-loop-process l = l.memories ≡ map (λ p. (outcome_of l.self p).memory) (take l.process-index l.processes)
