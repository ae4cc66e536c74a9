use Rattle.std.proofs.Common.{◌≡◌, ℕ, map, take}
use Rattle.bsp_run.specs.Supersteps.{outcomes_of}
use Rattle.bsp_run.specs.Result.{lines_of_process}
use Rattle.bsp_run.proofs.lines.printing.Given as goal

-- the lines of each process are those in the supersteps that were kept
abbrev pub invariant-loop-superstep : goal.invariant-loop-superstep
invariant-loop-superstep l = (p : ℕ) → lines_of_process (map (λ o. o.now) l.turns.items) p ≡ lines_of_process (outcomes_of (take l.superstep-index l.past)) p
