-- Why an update did what it did: a place of the new run has a cause exactly where the update names it (this profile).
use Rattle.std.specs.Prelude.{◌≡◌, ◌≢◌, ◌↔◌, ℕ, Bool, false, List, [], None, Some, Contains}
use Rattle.bsp_model.specs.declared.input.Input.{Input}
use Rattle.bsp_model.specs.Input.{input_fault}
use Rattle.bsp_model.specs.declared.fault.End.{End}
use Rattle.bsp_step.specs.Act.{Act}
use Rattle.bsp_step.specs.Turn.{turn_of}
use Rattle.bsp_step.specs.ViewParts.{ViewParts}
use Rattle.bsp_run.specs.Law.{IsBspRun}
use Rattle.bsp_run.specs.Run.{Run}
use Rattle.bsp_run.specs.Supersteps.{supersteps_of}
use Rattle.bsp_incr.specs.declared.edit.Edit.{Edit}
use Rattle.bsp_incr.specs.declared.reply.Place.{Place}
use Rattle.bsp_incr.specs.declared.reply.Update.{Update}
use Rattle.bsp_incr.specs.Edits.{refusal_of, edited}
use Rattle.bsp_incr.specs.Exact.{HasTurn, HasDelivery, IsExact}
use Rattle.bsp_causes.specs.declared.turns.TurnCauses.{TurnCauses}
use Rattle.bsp_causes.specs.declared.deliveries.DeliveryCauses.{DeliveryCauses}
use Rattle.bsp_causes.specs.TurnCauses.{turn_causes}
use Rattle.bsp_causes.specs.DeliveryCauses.{delivery_causes}

-- no part of the view is another
abbrev pub no_turn_causes : TurnCauses
no_turn_causes = record { is_new = false; args = false; queue = false; table = false; tag_size = false; words = [] }

-- nothing on which the delivery depends is another
abbrev pub no_delivery_causes : DeliveryCauses
no_delivery_causes = record { is_new = false; memory = false; gets = false; read = []; puts = []; sends = [] }

-- A turn of the new run was taken again exactly where it has a cause, and where it was not it has none. So it is with deliveries.
pub record HasCauses (looks : ViewParts → ℕ → Bool) (old new : Run) (update : Update) : Type 0 where
  pub executed : (place : Place) → HasTurn (supersteps_of new) place → Contains update.executed place ↔ (turn_causes looks (supersteps_of old) (supersteps_of new) place ≢ no_turn_causes)
  pub not_executed : (place : Place) → HasTurn (supersteps_of new) place → (Contains update.executed place → ⊥) → turn_causes looks (supersteps_of old) (supersteps_of new) place ≡ no_turn_causes
  pub redelivered : (place : Place) → HasDelivery new.past place → Contains update.redelivered place ↔ (delivery_causes old.past new.past place ≢ no_delivery_causes)
  pub not_redelivered : (place : Place) → HasDelivery new.past place → (Contains update.redelivered place → ⊥) → delivery_causes old.past new.past place ≡ no_delivery_causes

-- That holds of an exact update between the runs before and after an accepted batch.
abbrev pub UpdatesHaveCauses : Type 0
UpdatesHaveCauses =
    (acts : ViewParts → List Act) (ending : ViewParts → End) (looks : ViewParts → ℕ → Bool) (i : Input) (edits : List Edit) (old new : Run) (update : Update) → input_fault i ≡ None → refusal_of i edits ≡ None
    → IsBspRun (turn_of acts ending) i old → IsBspRun (turn_of acts ending) (edited i edits) new → IsExact looks (Some old) new update → HasCauses looks old new update
