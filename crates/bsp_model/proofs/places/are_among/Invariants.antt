use Rattle.std.proofs.Common.{ℕ, ◌<◌, get_or}
use Rattle.std.specs.List.{Contains}
use Rattle.bsp_model.proofs.places.are_among.Given as goal

-- The processes so far are among them.
abbrev pub invariant-loop-k : goal.invariant-loop-k
invariant-loop-k l = (k : ℕ) → k < l.k → Contains l.processes (get_or l.some k 0)
