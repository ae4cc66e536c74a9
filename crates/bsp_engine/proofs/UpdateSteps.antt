-- The steps of an update are those of the run after it.
use Rattle.std.proofs.Common.{◌≡◌, ◌<◌, ◌≤◌, ℕ, Bool, true, false, nat_lt, List, length, Option, None, Some, ap, refl, sym, ◌∙◌, arith}
use Rattle.std.proofs.lemmas.Bool.Decides.{nat_tests}
use Rattle.std.proofs.lemmas.List.{get_or_past}
use Rattle.std.specs.List.{All}
use Rattle.std.specs.List.{Contains}
use Rattle.std.proofs.lemmas.List.Elements.{All-contains_itself, All-weaker}
use Rattle.bsp_model.specs.declared.input.Input.{Input}
use Rattle.bsp_step.specs.Turn.{turn_of}
use Rattle.bsp_step.specs.ViewParts.{ViewParts}
use Rattle.bsp_step.specs.OutcomeParts.{OutcomeParts}
use Rattle.bsp_run.specs.declared.superstep.Superstep.{Superstep}
use Rattle.bsp_run.specs.Run.{Run}
use Rattle.bsp_run.specs.Supersteps.{no_superstep, superstep_at, supersteps_of}
use Rattle.bsp_run.specs.Law.{IsBspRun}
use Rattle.bsp_run.proofs.OneRun.{front}
use Rattle.bsp_run.proofs.Records.{count-outcomes_in}
use Rattle.bsp_incr.specs.declared.edit.Edit.{Edit}
use Rattle.bsp_incr.specs.declared.reply.Place.{Place}
use Rattle.bsp_incr.specs.declared.reply.Update.{Update}
use Rattle.bsp_incr.specs.Edits.{edited}
use Rattle.bsp_incr.specs.Exact.{HasDelivery, HasTurn, IsExact, delivered_before, supersteps_before}
use Rattle.bsp_incr.specs.Inside.Changes.{update_of}
use Rattle.bsp_incr.proofs.Exactness.{exact_of}
use Rattle.bsp_incr.proofs.Lawful.{edited_count}
use Rattle.bsp_causes.specs.DeliveryCauses.{HaveAsMany}
use Rattle.bsp_causes.specs.TurnCauses.{HaveSameSizes}
use Rattle.bsp_causes.proofs.SamePlaces.{same_place}
use Rattle.bsp_engine.specs.Inside.Causes.{IsUpdateTo}
use Rattle.bsp_engine.specs.Inside.Touched.{IsUpdateBetween}

-- what holds of each member holds of all
all_of : (P : Place → Type 0) (places : List Place) → ((place : Place) → Contains places place → P place) → All P places
all_of P places each = All-weaker (Contains places) P each places (All-contains_itself places)

-- an exact update of runs of one size
steps_of : (looks : ViewParts → ℕ → Bool) (old : Option Run) (new : Run) (update : Update) → IsExact looks old new update
    → ((place : Place) → HasTurn (supersteps_of new) place → HaveSameSizes (supersteps_before old) (supersteps_of new) place)
    → ((place : Place) → HasDelivery new.past place → HaveAsMany (delivered_before old) new.past place) → IsUpdateTo old new update
steps_of looks old new update exact sizes many =
    record {
      executed = all_of (HasTurn (supersteps_of new)) update.executed (λ place is. ((exact.executed place).0 is).0);
      redelivered = all_of (HasDelivery new.past) update.redelivered (λ place is. ((exact.redelivered place).0 is).0);
      turns_in_order = exact.executed_in_order;
      deliveries_in_order = exact.redelivered_in_order;
      same_sizes = sizes;
      as_many = many;
    }

-- the update of an opening
pub opening_steps : (looks : ViewParts → ℕ → Bool) (new : Run) (update : Update) → update ≡ update_of looks None new → IsUpdateTo None new update
opening_steps looks new update is = steps_of looks None new update (exact_of is) (λ place made there. absurd (omega arith)) (λ place made there. absurd (omega arith))

past_below : (past : List Superstep) (s p : ℕ) → p < length (superstep_at past s).outcomes → s < length past
past_below past s p there = elim (nat_lt s (length past)) as (λ b. nat_lt s (length past) ≡ b → s < length past) [
  | true ↦ λ is. grind (arith, nat_tests)
  | false ↦ λ is.
      let far : length past ≤ s = grind (arith, nat_tests) in
      let none : superstep_at past s ≡ no_superstep = get_or_past past s no_superstep far in
      absurd (omega (arith, there, ap (λ (x : Superstep). length x.outcomes) none))
] refl

-- as many outcomes as processes, where a superstep ended by delivery
count_delivered : (turn : ViewParts → OutcomeParts) (input : Input) (r : Run) (s p : ℕ) → IsBspRun turn input r → p < length (superstep_at r.past s).outcomes
    → length (superstep_at r.past s).outcomes ≡ length input.mems
count_delivered turn input r s p law there =
    let f = front r s (past_below r.past s p there) in
    ap (λ (x : Superstep). length x.outcomes) (sym f.1) ∙ ap (λ (os : List OutcomeParts). length os) (law.outcomes s f.0) ∙ count-outcomes_in turn input s

-- the update after a batch
pub updated_steps : (old new : Run) (batch : List Edit) (update : Update) → IsUpdateBetween old batch update new → IsUpdateTo (Some old) new update
updated_steps old new batch update between =
    let runs = between.runs in
    let turn = turn_of between.acts between.ending in
    steps_of between.looks (Some old) new update runs.exact
    (λ place made there. let h = same_place between.acts between.ending between.input batch old new place runs.lawful runs.accepted runs.before runs.after made there in record { nprocs = h.nprocs; memory = h.same_length })
    (λ place made there. count_delivered turn between.input old place.step place.pid runs.before there
    ∙ sym (edited_count between.input batch) ∙ sym (count_delivered turn (edited between.input batch) new place.step place.pid runs.after made))
