-- The causes of a delivery part by part: what private functions ask and promise.
use Rattle.std.specs.Prelude.{◌≡◌, ◌<◌, ℕ, Bool, false, not, List, [], length}
use Rattle.std.specs.Cmp.Lexicographic.{pointwise}
use Rattle.std.specs.List.{list_any}
use Rattle.bsp_step.specs.OutcomeParts.{OutcomeParts, outcome_of}
use Rattle.bsp_deliver.specs.Condition.{AreDeliverable}
use Rattle.bsp_model.specs.Same.{same_words}
use Rattle.bsp_causes.specs.Same.{same_get}
use Rattle.bsp_causes.specs.DeliveryCauses.{reads_others, puts_others, sends_others}
use Rattle.bsp_causes.specs.declared.deliveries.DeliveryCauses.{DeliveryCauses}
use Rattle.bsp_causes.specs.declared.deliveries.Part.{Part}
use Rattle.bsp_causes.specs.declared.deliveries.Part.TheVariants.{Read, Puts, Sends}

-- the outcomes of two supersteps that ended by delivery, of as many processes, among which is d
pub record AreComparedAt (old new : List OutcomeParts) (d : ℕ) : Type 0 where
  pub as_many : length old ≡ length new
  pub known : d < length new
  pub old_deliverable : AreDeliverable old
  pub new_deliverable : AreDeliverable new

-- in this part the delivery to d depends on something else of q
abbrev pub is_other : Part → List OutcomeParts → List OutcomeParts → ℕ → ℕ → Bool
is_other Read old new d q = list_any (reads_others old new q) (outcome_of new d).gets
is_other Puts old new d q = puts_others old new d q
is_other Sends old new d q = sends_others old new d q
