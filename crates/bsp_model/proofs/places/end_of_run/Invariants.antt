use Rattle.std.proofs.Common.{◌≡◌, ◌≤◌, ◌<◌, ◌+◌, ◌-◌, ℕ, get_or}
use Rattle.bsp_model.proofs.places.end_of_run.Given as goal

-- The numbers so far are consecutive.
abbrev pub invariant-loop-end : goal.invariant-loop-end
invariant-loop-end l = (k : ℕ) → l.place ≤ k → k < l.end → get_or l.processes k 0 ≡ get_or l.processes l.place 0 + (k - l.place)
