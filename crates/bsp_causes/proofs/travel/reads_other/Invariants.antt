use Rattle.std.proofs.Common.{◌≡◌, ◌<◌, ◌+◌, ℕ, get_or}
use Rattle.bsp_step.specs.OutcomeParts.{outcome_of}
use Rattle.bsp_causes.proofs.travel.reads_other.Given as goal

-- the words so far are the same
abbrev pub invariant-loop-i : goal.invariant-loop-i
invariant-loop-i l = (k : ℕ) → k < l.i → get_or (outcome_of l.before l.get.owner).memory (l.get.start + k) 0 ≡ get_or (outcome_of l.after l.get.owner).memory (l.get.start + k) 0
