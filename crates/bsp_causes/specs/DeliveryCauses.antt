-- Why a delivery was made again (this profile).
use Rattle.std.specs.Prelude.{◌≡◌, ℕ, Bool, true, false, ◌==◌, ◌&&◌, not, nat_lt, List, [], filter, length, if◌then◌else◌}
use Rattle.std.specs.Cmp.Lexicographic.{pointwise}
use Rattle.std.specs.List.{list_any}
use Rattle.bsp_model.specs.ProcessSet.{processes_where}
use Rattle.bsp_model.specs.declared.request.Get.{Get}
use Rattle.bsp_step.specs.OutcomeParts.{OutcomeParts, outcome_of}
use Rattle.bsp_deliver.specs.Requests.{words_read}
use Rattle.bsp_run.specs.declared.superstep.Superstep.{Superstep}
use Rattle.bsp_run.specs.Supersteps.{superstep_at}
use Rattle.bsp_incr.specs.declared.reply.Place.{Place}
use Rattle.bsp_incr.specs.Exact.{HasDelivery}
use Rattle.bsp_causes.specs.Same.{same_get, same_put, same_send}
use Rattle.bsp_model.specs.Same.{same_words}
use Rattle.bsp_causes.specs.declared.deliveries.DeliveryCauses.{DeliveryCauses}

-- the previous run has such a delivery
abbrev pub has_delivery : List Superstep → Place → Bool
has_delivery ss place = nat_lt place.pid (length (superstep_at ss place.step).outcomes)

-- Where the previous run has a delivery at the place, its superstep there has as many processes as that of the new run.
abbrev pub HaveAsMany : List Superstep → List Superstep → Place → Type 0
HaveAsMany olds news place =
    HasDelivery olds place → length (superstep_at olds place.step).outcomes ≡ length (superstep_at news place.step).outcomes

-- the get reads other words of this owner
abbrev pub reads_others : List OutcomeParts → List OutcomeParts → ℕ → Get → Bool
reads_others old new owner g = (g.owner == owner) && not (same_words (words_read old g) (words_read new g))

-- the owners, ascending, of which the gets read other words
abbrev pub owners_read : List OutcomeParts → List OutcomeParts → List Get → List ℕ
owners_read old new gets = processes_where (length new) (λ q. list_any (reads_others old new q) gets)

-- The process q puts something else to d.
abbrev pub puts_others : List OutcomeParts → List OutcomeParts → ℕ → ℕ → Bool
puts_others old new d q =
    not (pointwise same_put (filter (λ p. p.target == d) (outcome_of old q).puts) (filter (λ p. p.target == d) (outcome_of new q).puts))

-- The process q sends something else to d.
abbrev pub sends_others : List OutcomeParts → List OutcomeParts → ℕ → ℕ → Bool
sends_others old new d q =
    not (pointwise same_send (filter (λ m. m.target == d) (outcome_of old q).sends) (filter (λ m. m.target == d) (outcome_of new q).sends))

-- d asks for the same words of the same owners
abbrev pub has_same_gets : List OutcomeParts → List OutcomeParts → ℕ → Bool
has_same_gets old new d = pointwise same_get (outcome_of old d).gets (outcome_of new d).gets

-- each part on which the delivery to d depends, and that is another
abbrev pub parcel_causes : List OutcomeParts → List OutcomeParts → ℕ → DeliveryCauses
parcel_causes old new d =
    record {
      is_new = false;
      memory = not (same_words (outcome_of old d).memory (outcome_of new d).memory);
      gets = not (has_same_gets old new d);
      read = if has_same_gets old new d then owners_read old new (outcome_of new d).gets else [];
      puts = processes_where (length new) (puts_others old new d);
      sends = processes_where (length new) (sends_others old new d);
    }

-- nothing was there before, and nothing else is a cause
abbrev pub new_delivery : DeliveryCauses
new_delivery = record { is_new = true; memory = false; gets = false; read = []; puts = []; sends = [] }

-- Why the delivery at a place of the new run was made. Both lists are of supersteps that ended by delivery.
unfoldable pub delivery_causes : List Superstep → List Superstep → Place → DeliveryCauses
delivery_causes olds news place =
    if has_delivery olds place then parcel_causes (superstep_at olds place.step).outcomes (superstep_at news place.step).outcomes place.pid
    else new_delivery
