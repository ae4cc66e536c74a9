-- What a run needs anew, against the record of another run, as lists that are computed.
use Rattle.std.specs.Prelude.{ℕ, ◌+◌, Bool, List, [], ◌∷◌, ◌++◌, Option, ◌&&◌, not, nat_lt, map, length, slice_get, slice_index_or}
use Rattle.bsp_model.specs.ProcessSet.{processes_where}
use Rattle.bsp_step.specs.ViewParts.{ViewParts}
use Rattle.bsp_step.specs.OutcomeParts.{OutcomeParts}
use Rattle.bsp_deliver.specs.Delivery.{delivery_parts}
use Rattle.bsp_run.specs.declared.superstep.Superstep.{Superstep}
use Rattle.bsp_run.specs.Run.{Run}
use Rattle.bsp_run.specs.Supersteps.{supersteps_of, superstep_at}
use Rattle.bsp_run.specs.Condition.{no_view}
use Rattle.bsp_incr.specs.declared.reply.Place.{Place}
use Rattle.bsp_incr.specs.declared.reply.Update.{Update}
use Rattle.bsp_deliver.specs.Inside.SameDelivery.{same_delivery}
use Rattle.bsp_incr.specs.Exact.{supersteps_before, delivered_before}
use Rattle.bsp_incr.specs.Inside.Reuse.{needs_turn}

-- the places of these processes in a superstep
abbrev pub places_of : ℕ → List ℕ → List Place
places_of step processes = map (λ p. record { step = step; pid = p }) processes

abbrev pub differs : (ViewParts → ℕ → Bool) → List ViewParts → List ViewParts → ℕ → Bool
differs looks old new p = needs_turn looks (slice_get old p) (slice_index_or new p no_view)

abbrev pub differ_in : (ViewParts → ℕ → Bool) → ℕ → List ViewParts → List ViewParts → List Place
differ_in looks step old new = places_of step (processes_where (length new) (differs looks old new))

-- The processes at which a test holds, superstep by superstep, from superstep n on. Of each superstep so many are asked.
abbrev pub gathered : (Superstep → ℕ) → (ℕ → Superstep → ℕ → Bool) → ℕ → List Superstep → List Place
gathered count test n [] = []
gathered count test n (s ∷ later) = places_of n (processes_where (count s) (test n s)) ++ gathered count test (n + 1) later

abbrev pub turns_in : Superstep → ℕ
turns_in s = length s.views

abbrev pub turn_test : (ViewParts → ℕ → Bool) → List Superstep → ℕ → Superstep → ℕ → Bool
turn_test looks olds n s p = differs looks (superstep_at olds n).views s.views p

-- The places whose turn has to be taken (this profile), by superstep, then process: the previous run has no such superstep, or a view of the process that does
-- not serve.
unfoldable pub differ : (ViewParts → ℕ → Bool) → List Superstep → List Superstep → List Place
differ looks olds news = gathered turns_in (turn_test looks olds) 0 news

-- The delivery to d has to be made: the previous run has none, or one that depends on something else.
abbrev pub is_touched : List OutcomeParts → List OutcomeParts → ℕ → Bool
is_touched old new d = not (nat_lt d (length old) && same_delivery (delivery_parts old d) (delivery_parts new d))

abbrev pub touched_in : ℕ → List OutcomeParts → List OutcomeParts → List Place
touched_in step old new = places_of step (processes_where (length new) (is_touched old new))

abbrev pub deliveries_in : Superstep → ℕ
deliveries_in s = length s.outcomes

abbrev pub delivery_test : List Superstep → ℕ → Superstep → ℕ → Bool
delivery_test olds n s p = is_touched (superstep_at olds n).outcomes s.outcomes p

-- The places whose delivery has to be made (this profile), by superstep, then process. Both lists are of supersteps that ended by delivery.
unfoldable pub touched : List Superstep → List Superstep → List Place
touched olds news = gathered deliveries_in (delivery_test olds) 0 news

-- What has to be done for a new run, against the previous run.
abbrev pub update_of : (ViewParts → ℕ → Bool) → Option Run → Run → Update
update_of looks old new =
    record { executed = differ looks (supersteps_before old) (supersteps_of new); redelivered = touched (delivered_before old) new.past }
