-- Each place of an update has a cause, and a place that it leaves out has none.
use Rattle.std.proofs.Common.{◌≡◌, ◌↔◌, ◌&&◌, Bool, true, false, length, refl, sym, ℕ, List}
use Rattle.std.specs.Prelude.{nat_lt}
use Rattle.std.specs.Bool.{Decides}
use Rattle.std.proofs.lemmas.Bool.{false≢true}
use Rattle.std.proofs.lemmas.Bool.Decides.{Decides-and, Decides-ltb}
use Rattle.bsp_step.specs.Turn.{turn_of}
use Rattle.bsp_step.specs.ViewParts.{ViewParts}
use Rattle.bsp_run.specs.declared.superstep.Superstep.{Superstep}
use Rattle.bsp_run.specs.Supersteps.{supersteps_of, superstep_at}
use Rattle.bsp_incr.specs.declared.reply.Place.{Place}
use Rattle.bsp_incr.specs.Edits.{edited}
use Rattle.bsp_incr.specs.Exact.{HasTurn, HasDelivery, IsServed, IsKept, view_there}
use Rattle.bsp_incr.specs.Inside.Reuse.{serves}
use Rattle.bsp_incr.proofs.Lawful.{edited_count, edited_lawful}
use Rattle.bsp_incr.proofs.Propagation.{Decides-untouched}
use Rattle.bsp_incr.proofs.Serving.{Decides-serves}
use Rattle.bsp_causes.proofs.SamePlaces.{same_place}
use Rattle.bsp_causes.proofs.Shapes.{have_as_many}
use Rattle.bsp_causes.specs.TurnCauses.{turn_causes}
use Rattle.bsp_causes.specs.DeliveryCauses.{delivery_causes}
use Rattle.bsp_laws.specs.Causes.{no_turn_causes, no_delivery_causes, UpdatesHaveCauses}
use Rattle.bsp_laws.proofs.TurnCaused.{uncaused_turn}
use Rattle.bsp_laws.proofs.DeliveryCaused.{uncaused_delivery, deliverable_there}

-- what a test decides holds where it cannot fail
decided : {P : Type 0} (b : Bool) → Decides b P → ((P → ⊥) → ⊥) → P
decided true h unfailing = h.0 refl
decided false h unfailing = absurd (unfailing (λ p. false≢true (h.1 p)))

served_unless : (looks : ViewParts → ℕ → Bool) (olds news : List Superstep) (q : Place) → ((IsServed looks olds news q → ⊥) → ⊥) → IsServed looks olds news q
served_unless looks olds news q unfailing =
    let v = view_there olds q in
    let w = view_there news q in
    let count = length (superstep_at olds q.step).views in
    let h =
    decided (nat_lt q.pid count && serves looks v w) (Decides-and (nat_lt q.pid count) (serves looks v w) (Decides-ltb q.pid count) (Decides-serves looks v w))
    (λ fails. unfailing (λ s. fails (s.there, s.alike))) in
    record { there = h.0; alike = h.1 }

kept_unless : (olds news : List Superstep) (q : Place) → ((IsKept olds news q → ⊥) → ⊥) → IsKept olds news q
kept_unless olds news q unfailing =
    let h = decided _ (Decides-untouched (superstep_at olds q.step).outcomes (superstep_at news q.step).outcomes q.pid) (λ fails. unfailing (λ s. fails (s.there, s.same))) in
    record { there = h.0; same = h.1 }

pub causes_of_updates : UpdatesHaveCauses
causes_of_updates acts ending looks i edits old new update lawful accepted before after is =
    let turn = turn_of acts ending in
    let j = edited i edits in
    let olds = supersteps_of old in
    let news = supersteps_of new in
    let turns : (q : Place) → HasTurn news q → (turn_causes looks olds news q ≡ no_turn_causes) ↔ IsServed looks olds news q = λ q here.
    uncaused_turn looks olds news q (same_place acts ending i edits old new q lawful accepted before after here) in
    let deliveries : (q : Place) → HasDelivery new.past q → (delivery_causes old.past new.past q ≡ no_delivery_causes) ↔ IsKept old.past new.past q = λ q here.
    uncaused_delivery old.past new.past q here
    (λ there. record {
      count = have_as_many turn i j old new q before after (sym (edited_count i edits)) here there;
      before = deliverable_there acts ending i old q lawful before there;
      after = deliverable_there acts ending j new q (edited_lawful i edits accepted lawful) after here;
    }) in
    record {
      executed = λ q here. (λ c e. ((is.executed q).0 c).1 ((turns q here).0 e), λ caused. (is.executed q).1 (here, λ served. caused ((turns q here).1 served)));
      not_executed = λ q here free. (turns q here).1 (served_unless looks olds news q (λ unserved. free ((is.executed q).1 (here, unserved))));
      redelivered = λ q here. (λ c e. ((is.redelivered q).0 c).1 ((deliveries q here).0 e), λ caused. (is.redelivered q).1 (here, λ kept. caused ((deliveries q here).1 kept)));
      not_redelivered = λ q here free. (deliveries q here).1 (kept_unless old.past new.past q (λ lost. free ((is.redelivered q).1 (here, lost))));
    }
