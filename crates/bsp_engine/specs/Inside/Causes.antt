-- What the lines of causes and costs ask of an update.
use Rattle.std.specs.Prelude.{All, Option}
use Rattle.bsp_run.specs.Run.{Run}
use Rattle.bsp_run.specs.Supersteps.{supersteps_of}
use Rattle.bsp_incr.specs.declared.reply.Place.{Place}
use Rattle.bsp_incr.specs.declared.reply.Update.{Update}
use Rattle.bsp_incr.specs.Exact.{HasDelivery, HasTurn, AreInOrder, delivered_before, supersteps_before}
use Rattle.bsp_causes.specs.DeliveryCauses.{HaveAsMany}
use Rattle.bsp_causes.specs.TurnCauses.{HaveSameSizes}

-- Its places are those of turns and deliveries of the new run, in order, and where the previous run has a turn or a delivery it is of the same size.
pub record IsUpdateTo (old : Option Run) (new : Run) (update : Update) : Type 0 where
  pub executed : All (HasTurn (supersteps_of new)) update.executed
  pub redelivered : All (HasDelivery new.past) update.redelivered
  pub turns_in_order : AreInOrder update.executed
  pub deliveries_in_order : AreInOrder update.redelivered
  pub same_sizes : (place : Place) → HasTurn (supersteps_of new) place → HaveSameSizes (supersteps_before old) (supersteps_of new) place
  pub as_many : (place : Place) → HasDelivery new.past place → HaveAsMany (delivered_before old) new.past place
