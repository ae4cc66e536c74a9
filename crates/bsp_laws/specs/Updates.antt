-- What an update leaves undone (this profile).
use Rattle.std.specs.Prelude.{◌≡◌, ◌≤◌, ℕ, Bool, List, [], None, Some, length, Contains}
use Rattle.bsp_model.specs.declared.input.Input.{Input}
use Rattle.bsp_model.specs.Input.{input_fault}
use Rattle.bsp_model.specs.declared.fault.End.{End}
use Rattle.bsp_step.specs.Act.{Act}
use Rattle.bsp_step.specs.Footprint.{IsFootprint}
use Rattle.bsp_step.specs.Turn.{turn_of}
use Rattle.bsp_step.specs.ViewParts.{ViewParts}
use Rattle.bsp_step.specs.OutcomeParts.{OutcomeParts}
use Rattle.bsp_run.specs.Law.{IsBspRun}
use Rattle.bsp_run.specs.Run.{Run, run}
use Rattle.bsp_run.specs.Supersteps.{supersteps_of}
use Rattle.bsp_incr.specs.declared.reply.Place.{Place}
use Rattle.bsp_incr.specs.declared.reply.Update.{Update}
use Rattle.bsp_incr.specs.Exact.{IsExact}
use Rattle.bsp_incr.specs.Reused.{AreReused}

-- no turn was taken, and no delivery was made
pub record DoesNothing (update : Update) : Type 0 where
  pub executed : update.executed ≡ []
  pub redelivered : update.redelivered ≡ []

-- Where the run is the previous run, nothing was done.
abbrev pub NothingForTheSameRun : Type 0
NothingForTheSameRun = (looks : ViewParts → ℕ → Bool) (run : Run) (update : Update) → IsExact looks (Some run) run update → DoesNothing update

-- inputs that differ in the limit and the prices alone
pub record DifferInLimitAndPrices (i j : Input) : Type 0 where
  pub memories : i.mems ≡ j.mems
  pub arguments : i.args ≡ j.args

-- turns were taken and deliveries made only in supersteps where the old run has none
pub record GoesOnAfter (old : Run) (update : Update) : Type 0 where
  pub executed : (place : Place) → Contains update.executed place → length (supersteps_of old) ≤ place.step
  pub redelivered : (place : Place) → Contains update.redelivered place → length old.past ≤ place.step

-- Other prices and another limit take no turn again ..
abbrev pub LimitsAndPricesGoOn : Type 0
LimitsAndPricesGoOn =
    (turn : ViewParts → OutcomeParts) (looks : ViewParts → ℕ → Bool) (i j : Input) (update : Update) → input_fault i ≡ None → input_fault j ≡ None → DifferInLimitAndPrices i j
    → IsExact looks (Some (run turn i)) (run turn j) update → GoesOnAfter (run turn i) update

-- .. and with a limit that is no higher nothing is done.
abbrev pub LowerLimitsDoNothing : Type 0
LowerLimitsDoNothing =
    (turn : ViewParts → OutcomeParts) (looks : ViewParts → ℕ → Bool) (i j : Input) (update : Update) → input_fault i ≡ None → input_fault j ≡ None → DifferInLimitAndPrices i j → j.limit ≤ i.limit
    → IsExact looks (Some (run turn i)) (run turn j) update → DoesNothing update

-- In two runs of one program, where a turn of the old run serves, the new run has that turn's outcome, with its stores made again on the memory of its process.
abbrev pub TurnsAreReused : Type 0
TurnsAreReused =
    (acts : ViewParts → List Act) (ending : ViewParts → End) (looks : ViewParts → ℕ → Bool) (i j : Input) (old new : Run) → IsFootprint acts ending looks
    → input_fault i ≡ None → input_fault j ≡ None → IsBspRun (turn_of acts ending) i old → IsBspRun (turn_of acts ending) j new
    → AreReused looks (Some old) new
