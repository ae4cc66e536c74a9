-- What is left where no turn is taken again (this profile).
use Rattle.std.specs.Prelude.{◌≡◌, ℕ, Bool, List, Option}
use Rattle.bsp_model.specs.Stores.{made_again}
use Rattle.bsp_step.specs.ViewParts.{ViewParts}
use Rattle.bsp_step.specs.OutcomeParts.{OutcomeParts, outcome_of}
use Rattle.bsp_run.specs.declared.superstep.Superstep.{Superstep}
use Rattle.bsp_run.specs.Run.{Run}
use Rattle.bsp_run.specs.Supersteps.{supersteps_of, superstep_at}
use Rattle.bsp_incr.specs.declared.reply.Place.{Place}
use Rattle.bsp_incr.specs.Exact.{supersteps_before, HasTurn, view_there, IsServed}

-- A recorded outcome over a new memory: all of it stays but the memory, on which its stores are made again.
abbrev pub reused : OutcomeParts → List ℕ → OutcomeParts
reused o memory = record o { memory = made_again memory o.stores }

abbrev pub outcome_there : List Superstep → Place → OutcomeParts
outcome_there ss place = outcome_of (superstep_at ss place.step).outcomes place.pid

-- Where a turn of the previous run serves, the new run has that turn's outcome, with its stores made again in order on the memory that the process has now.
abbrev pub AreReused : (ViewParts → ℕ → Bool) → Option Run → Run → Type 0
AreReused looks old new = (place : Place) → HasTurn (supersteps_of new) place → IsServed looks (supersteps_before old) (supersteps_of new) place
    → outcome_there (supersteps_of new) place ≡ reused (outcome_there (supersteps_before old) place) (view_there (supersteps_of new) place).memory
