-- What is left where no turn is taken again.
use Rattle.std.proofs.Common.{◌≡◌, ◌<◌, ℕ, Bool, List, Some, None, length, get_or, arith, sym, ap, ◌∙◌, subst, inl, inr}
use Rattle.std.proofs.lemmas.Bool.{cases_lt}
use Rattle.std.proofs.lemmas.List.{get_or-map}
use Rattle.bsp_model.specs.declared.input.Input.{Input}
use Rattle.bsp_model.specs.Input.{input_fault}
use Rattle.bsp_model.specs.declared.fault.End.{End}
use Rattle.bsp_step.specs.ViewParts.{ViewParts, IsView}
use Rattle.bsp_step.specs.OutcomeParts.{OutcomeParts, outcome_of, no_outcome}
use Rattle.bsp_step.specs.Act.{Act}
use Rattle.bsp_step.specs.Turn.{turn_of}
use Rattle.bsp_step.specs.Footprint.{IsFootprint}
use Rattle.bsp_run.specs.declared.superstep.Superstep.{Superstep}
use Rattle.bsp_run.specs.Run.{Run}
use Rattle.bsp_run.specs.Law.{IsBspRun, views_in}
use Rattle.bsp_run.specs.Supersteps.{supersteps_of}
use Rattle.bsp_run.specs.Condition.{no_view}
use Rattle.bsp_run.proofs.Laws.{superstep_at-past_end}
use Rattle.bsp_run.proofs.ViewsWithin.{views_of_run}
use Rattle.bsp_incr.specs.declared.reply.Place.{Place}
use Rattle.bsp_incr.specs.Exact.{HasTurn, view_there}
use Rattle.bsp_incr.specs.Reused.{reused, outcome_there, AreReused}
use Rattle.bsp_incr.proofs.Reusing.{turn_of-alike}

-- a place with a turn is in a superstep
pub step_there : (ss : List Superstep) (place : Place) → HasTurn ss place → place.step < length ss
step_there ss place h =
    elim (cases_lt place.step (length ss)) [
      | inl l ↦ l
      | inr m ↦ let none = ap (λ (x : Superstep). length x.views) (superstep_at-past_end ss place.step m) in absurd (omega (arith, h, none))
    ]

-- what is left at a place is the turn of what is seen there
left_there : (turn : ViewParts → OutcomeParts) (input : Input) (r : Run) (place : Place) → IsBspRun turn input r → HasTurn (supersteps_of r) place → outcome_there (supersteps_of r) place ≡ turn (view_there (supersteps_of r) place)
left_there turn input r place law h =
    let l = step_there (supersteps_of r) place h in
    let views = law.views place.step l in
    let below : place.pid < length (views_in turn input place.step) = subst (λ (vs : List ViewParts). place.pid < length vs) views h in
    ap (λ (os : List OutcomeParts). outcome_of os place.pid) (law.outcomes place.step l)
    ∙ get_or-map turn (views_in turn input place.step) place.pid no_view no_outcome below
    ∙ ap (λ (vs : List ViewParts). turn (get_or vs place.pid no_view)) (sym views)

view_within_there : (acts : ViewParts → List Act) (ending : ViewParts → End) (input : Input) (r : Run) (place : Place) → input_fault input ≡ None → IsBspRun (turn_of acts ending) input r → HasTurn (supersteps_of r) place → IsView (view_there (supersteps_of r) place)
view_within_there acts ending input r place lawful law h =
    views_of_run acts ending input r place.step lawful law (step_there (supersteps_of r) place h) place.pid no_view h

-- Where a turn of the previous run serves, its outcome stays over the new memory.
pub law_reused : (acts : ViewParts → List Act) (ending : ViewParts → End) (looks : ViewParts → ℕ → Bool) (i j : Input) (old new : Run) → IsFootprint acts ending looks → input_fault i ≡ None → input_fault j ≡ None
    → IsBspRun (turn_of acts ending) i old → IsBspRun (turn_of acts ending) j new → AreReused looks (Some old) new
law_reused acts ending looks i j old new footprint was is before after place h served =
    let turn = turn_of acts ending in
    let v = view_there (supersteps_of old) place in
    let w = view_there (supersteps_of new) place in
    left_there turn j new place after h
    ∙ turn_of-alike acts ending looks v w footprint (view_within_there acts ending i old place was before served.there) (view_within_there acts ending j new place is after h) served.alike
    ∙ ap (λ (o : OutcomeParts). reused o w.memory) (sym (left_there turn i old place before served.there))
