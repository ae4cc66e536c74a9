use Rattle.std.proofs.Common.{◌≡◌, ℕ, ◌<◌, ◌≤◌}
use Rattle.bsp_causes.specs.Inside.Walk.{step_at}
use Rattle.bsp_causes.proofs.costs.end_of.Given as goal

-- the places so far are of the superstep
abbrev pub invariant-loop-at : goal.invariant-loop-at
invariant-loop-at l = (i : ℕ) → l.from ≤ i → i < l.at → step_at l.places i ≡ l.step
