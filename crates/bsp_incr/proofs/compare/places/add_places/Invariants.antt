use Rattle.std.proofs.Common.{◌≡◌, ◌++◌, take}
use Rattle.bsp_incr.specs.Inside.Changes.{places_of}
use Rattle.bsp_incr.proofs.compare.places.add_places.Given as goal

-- the places that are added so far
abbrev pub invariant-loop-process : goal.invariant-loop-process
invariant-loop-process l = l.places ≡ l.fn.places ++ places_of l.step (take l.process-index l.processes)
