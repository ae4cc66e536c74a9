-- Where two runs print the same.
use Rattle.std.specs.Prelude.{◌≡◌, ◌<◌, ℕ, Bool, true, false, List, length, slice_index_or}
use Rattle.bsp_step.specs.OutcomeParts.{outcome_of}
use Rattle.bsp_run.specs.Run.{Run}
use Rattle.bsp_run.specs.Supersteps.{supersteps_of, superstep_at}

-- In each superstep that both runs have, a process that is not marked prints in the one what it prints in the other.
pub record LinesDifferAtMost (other r : Run) (marks : List Bool) : Type 0 where
  pub same : (s p : ℕ) → s < length (supersteps_of other) → s < length (supersteps_of r)
      → slice_index_or marks p true ≡ false
      → (outcome_of (superstep_at (supersteps_of r) s).outcomes p).lines
      ≡ (outcome_of (superstep_at (supersteps_of other) s).outcomes p).lines
