-- What stays of the previous run where no turn is taken again: what the private functions of this crate ask and promise.
use Rattle.std.specs.Prelude.{◌≡◌, ◌<◌, List, Contains, length}
use Rattle.bsp_run.specs.Run.{Run}
use Rattle.bsp_run.specs.Supersteps.{supersteps_of}
use Rattle.bsp_incr.specs.declared.reply.Place.{Place}
use Rattle.bsp_incr.specs.Reused.{outcome_there}

-- At each place of both runs that is not among these, what was printed before is printed again.
pub record LinesStayBut (old r : Run) (places : List Place) : Type 0 where
  pub same : (place : Place) → place.step < length (supersteps_of old) → place.step < length (supersteps_of r)
      → (Contains places place → ⊥)
      → (outcome_there (supersteps_of r) place).lines ≡ (outcome_there (supersteps_of old) place).lines
