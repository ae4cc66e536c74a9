-- What an update is, place by place (this profile).
use Rattle.std.specs.Prelude.{◌≡◌, ◌<◌, ◌↔◌, ◌⊎◌, ℕ, Bool, List, [], ◌∷◌, Option, None, Some, length, slice_index_or, Contains}
use Rattle.bsp_step.specs.ViewParts.{ViewParts}
use Rattle.bsp_step.specs.Footprint.{AreAlike}
use Rattle.bsp_deliver.specs.Delivery.{delivery_parts}
use Rattle.bsp_run.specs.declared.superstep.Superstep.{Superstep}
use Rattle.bsp_run.specs.Run.{Run}
use Rattle.bsp_run.specs.Supersteps.{supersteps_of, superstep_at}
use Rattle.bsp_run.specs.Condition.{no_view}
use Rattle.bsp_incr.specs.declared.reply.Place.{Place}
use Rattle.bsp_incr.specs.declared.reply.Update.{Update}

-- The supersteps of a previous run, if there was one: a run that there is not has none.
abbrev pub supersteps_before : Option Run → List Superstep
supersteps_before None = []
supersteps_before (Some old) = supersteps_of old

-- those that ended by delivery
abbrev pub delivered_before : Option Run → List Superstep
delivered_before None = []
delivered_before (Some old) = old.past

-- a turn was taken at the place
abbrev pub HasTurn : List Superstep → Place → Type 0
HasTurn ss place = place.pid < length (superstep_at ss place.step).views

abbrev pub view_there : List Superstep → Place → ViewParts
view_there ss place = slice_index_or (superstep_at ss place.step).views place.pid no_view

-- The previous run has a turn at the place, and its view is alike where the program looks.
pub record IsServed (looks : ViewParts → ℕ → Bool) (olds news : List Superstep) (place : Place) : Type 0 where
  pub there : HasTurn olds place
  pub alike : AreAlike (looks (view_there olds place)) (view_there olds place) (view_there news place)

-- a delivery was made at the place
abbrev pub HasDelivery : List Superstep → Place → Type 0
HasDelivery ss place = place.pid < length (superstep_at ss place.step).outcomes

-- The previous run has a delivery at the place, and it depends on the same.
pub record IsKept (olds news : List Superstep) (place : Place) : Type 0 where
  pub there : HasDelivery olds place
  pub same : delivery_parts (superstep_at olds place.step).outcomes place.pid ≡ delivery_parts (superstep_at news place.step).outcomes place.pid

-- Places stand by superstep, then by process.
abbrev pub comes_before : Place → Place → Type 0
comes_before p q = (p.step < q.step) ⊎ ((p.step ≡ q.step) × (p.pid < q.pid))

-- Each place of a list comes before all behind it; so none stands there twice.
abbrev pub AreInOrder : List Place → Type 0
AreInOrder [] = Unit {0}
AreInOrder (p ∷ later) = ((q : Place) → Contains later q → comes_before p q) × AreInOrder later

-- What was done again is no more and no less than has to be: a turn was taken exactly where the new run has one and no turn of the previous run serves, and a
-- delivery was made exactly where the new run has one and none is kept.
pub record IsExact (looks : ViewParts → ℕ → Bool) (old : Option Run) (new : Run) (update : Update) : Type 0 where
  pub executed : (place : Place) → Contains update.executed place ↔ (HasTurn (supersteps_of new) place × (IsServed looks (supersteps_before old) (supersteps_of new) place → ⊥))
  pub redelivered : (place : Place) → Contains update.redelivered place ↔ (HasDelivery new.past place × (IsKept (delivered_before old) new.past place → ⊥))
  pub executed_in_order : AreInOrder update.executed
  pub redelivered_in_order : AreInOrder update.redelivered
