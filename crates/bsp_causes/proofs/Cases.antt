-- Causes where the previous run has the place, and where it has not.
use Rattle.std.proofs.Common.{◌≡◌, ◌≤◌, ◌<◌, ℕ, Bool, true, false, cond, List, length, arith, ap}
use Rattle.std.specs.Prelude.{nat_lt}
use Rattle.std.proofs.lemmas.Bool.Decides.{nat_tests}
use Rattle.bsp_step.specs.ViewParts.{ViewParts}
use Rattle.bsp_run.specs.declared.superstep.Superstep.{Superstep}
use Rattle.bsp_run.specs.Supersteps.{superstep_at}
use Rattle.bsp_incr.specs.declared.reply.Place.{Place}
use Rattle.bsp_incr.specs.Exact.{HasTurn, HasDelivery, view_there}
use Rattle.bsp_causes.specs.TurnCauses.{view_causes, new_turn, turn_causes}
use Rattle.bsp_causes.specs.DeliveryCauses.{parcel_causes, new_delivery, delivery_causes}

pub lt_holds : (m n : ℕ) → m < n → nat_lt m n ≡ true
lt_holds m n l = grind (arith, nat_tests)

pub lt_fails : (m n : ℕ) → n ≤ m → nat_lt m n ≡ false
lt_fails m n l = grind (arith, nat_tests)

pub turn_there : (looks : ViewParts → ℕ → Bool) (olds news : List Superstep) (place : Place) → HasTurn olds place → turn_causes looks olds news place ≡ view_causes looks (view_there olds place) (view_there news place)
unfolding turn_causes
turn_there looks olds news place h =
    ap (λ b. cond b (view_causes looks (view_there olds place) (view_there news place)) new_turn) (lt_holds place.pid (length (superstep_at olds place.step).views) h)

pub turn_not_there : (looks : ViewParts → ℕ → Bool) (olds news : List Superstep) (place : Place) → length (superstep_at olds place.step).views ≤ place.pid → turn_causes looks olds news place ≡ new_turn
unfolding turn_causes
turn_not_there looks olds news place h =
    ap (λ b. cond b (view_causes looks (view_there olds place) (view_there news place)) new_turn) (lt_fails place.pid (length (superstep_at olds place.step).views) h)

pub delivery_there : (olds news : List Superstep) (place : Place) → HasDelivery olds place → delivery_causes olds news place ≡ parcel_causes (superstep_at olds place.step).outcomes (superstep_at news place.step).outcomes place.pid
unfolding delivery_causes
delivery_there olds news place h =
    ap (λ b. cond b (parcel_causes (superstep_at olds place.step).outcomes (superstep_at news place.step).outcomes place.pid) new_delivery) (lt_holds place.pid (length (superstep_at olds place.step).outcomes) h)

pub delivery_not_there : (olds news : List Superstep) (place : Place) → length (superstep_at olds place.step).outcomes ≤ place.pid → delivery_causes olds news place ≡ new_delivery
unfolding delivery_causes
delivery_not_there olds news place h =
    ap (λ b. cond b (parcel_causes (superstep_at olds place.step).outcomes (superstep_at news place.step).outcomes place.pid) new_delivery) (lt_fails place.pid (length (superstep_at olds place.step).outcomes) h)
