-- What a process printed stays where its turn is not taken again.
use Rattle.std.proofs.Common.{◌≡◌, ◌≤◌, ◌<◌, ℕ, Bool, true, List, Some, None, map, length, get_or, arith, sym, ap, ◌∙◌, subst, inl, inr}
use Rattle.std.proofs.lemmas.Bool.{cases_lt}
use Rattle.std.proofs.lemmas.List.{get_or_past}
use Rattle.bsp_model.specs.declared.input.Input.{Input}
use Rattle.bsp_model.specs.Input.{input_fault}
use Rattle.bsp_model.specs.declared.fault.End.{End}
use Rattle.bsp_step.specs.ViewParts.{ViewParts}
use Rattle.bsp_step.specs.OutcomeParts.{OutcomeParts, outcome_of, no_outcome}
use Rattle.bsp_step.specs.Act.{Act}
use Rattle.bsp_step.specs.Turn.{turn_of}
use Rattle.bsp_step.specs.Footprint.{IsFootprint}
use Rattle.bsp_run.specs.Run.{Run}
use Rattle.bsp_run.specs.Law.{IsBspRun, outcomes_in}
use Rattle.bsp_run.specs.Supersteps.{supersteps_of}
use Rattle.bsp_run.specs.SameLines.{LinesDifferAtMost}
use Rattle.bsp_run.proofs.Records.{count-views_in, count-outcomes_in}
use Rattle.bsp_incr.specs.declared.reply.Place.{Place}
use Rattle.bsp_incr.specs.declared.reply.Update.{Update}
use Rattle.bsp_incr.specs.Exact.{HasTurn, IsServed}
use Rattle.bsp_incr.specs.Reused.{outcome_there}
use Rattle.bsp_incr.specs.Named.{with_members}
use Rattle.bsp_incr.specs.Inside.Changes.{update_of}
use Rattle.bsp_incr.specs.Inside.Before.{IsBefore}
use Rattle.bsp_incr.specs.Inside.Stays.{LinesStayBut}
use Rattle.bsp_incr.proofs.Exactness.{served_at}
use Rattle.bsp_incr.proofs.LawOfReuse.{law_reused}
use Rattle.bsp_incr.proofs.Members.{out_of_members}
use Rattle.bsp_incr.proofs.Unnamed.{has_place}

-- a process that there is not left nothing
nothing_there : (turn : ViewParts → OutcomeParts) (input : Input) (r : Run) (place : Place) → IsBspRun turn input r → place.step < length (supersteps_of r) → length input.mems ≤ place.pid → outcome_there (supersteps_of r) place ≡ no_outcome
nothing_there turn input r place law l past =
    let outcomes = law.outcomes place.step l in
    let none : length (outcomes_in turn input place.step) ≤ place.pid = omega (arith, count-outcomes_in turn input place.step, past) in
    ap (λ (os : List OutcomeParts). outcome_of os place.pid) outcomes ∙ get_or_past (outcomes_in turn input place.step) place.pid no_outcome none

turn_there : (turn : ViewParts → OutcomeParts) (input : Input) (r : Run) (place : Place) → IsBspRun turn input r → place.step < length (supersteps_of r) → place.pid < length input.mems → HasTurn (supersteps_of r) place
turn_there turn input r place law l below =
    subst (λ n. place.pid < n) (sym (ap (λ (vs : List ViewParts). length vs) (law.views place.step l) ∙ count-views_in turn input place.step)) below

-- At each place where no turn was taken again, the lines are those of the previous run.
pub lines_stay : (acts : ViewParts → List Act) (ending : ViewParts → End) (looks : ViewParts → ℕ → Bool) (input : Input) (old new : Run) (update : Update) → IsFootprint acts ending looks → input_fault input ≡ None
    → IsBefore (turn_of acts ending) input (Some old) → IsBspRun (turn_of acts ending) input new → update ≡ update_of looks (Some old) new → LinesStayBut old new update.executed
lines_stay acts ending looks input old new update footprint lawful before law is = record {
  same = λ place l m free.
      let turn = turn_of acts ending in
      elim (cases_lt place.pid (length input.mems)) [
        | inl below ↦
            let there = turn_there turn input new place law m below in
            let served : IsServed looks (supersteps_of old) (supersteps_of new) place = served_at looks (Some old) new update place is there free in
            ap (λ (o : OutcomeParts). o.lines) (law_reused acts ending looks before.input_before input old new footprint before.lawful lawful before.law law place there served)
        | inr past ↦
            ap (λ (o : OutcomeParts). o.lines)
            (nothing_there turn input new place law m past ∙ sym (nothing_there turn before.input_before old place before.law l (omega (arith, past, before.stands))))
      ];
}

-- Where the processes of all places are marked at which a turn was taken again, the others print what they printed.
pub unmarked_stay : (old new : Run) (places : List Place) (none marks : List Bool) → LinesStayBut old new places → marks ≡ with_members none (map (λ (q : Place). q.pid) places) → LinesDifferAtMost old new marks
unmarked_stay old new places none marks stay marked = record {
  same = λ s p l m clean.
      let q : Place = record { step = s; pid = p } in
      let pids : List ℕ = map (λ (x : Place). x.pid) places in
      stay.same q l m (λ here. (out_of_members none pids p (sym (ap (λ (set : List Bool). get_or set p true) marked) ∙ clean)).1 (has_place places q here));
}
