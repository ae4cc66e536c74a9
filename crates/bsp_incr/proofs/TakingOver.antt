-- A superstep that is taken over whole.
use Rattle.std.proofs.Common.{◌≡◌, ◌<◌, ℕ, Bool, true, List, [], Option, None, Some, All, map, length, sym, ap, ◌∙◌, subst}
use Rattle.bsp_model.specs.declared.fault.End.{End}
use Rattle.bsp_model.specs.declared.input.Input.{Input}
use Rattle.bsp_model.specs.Input.{input_fault}
use Rattle.bsp_model.specs.ProcessSet.{processes_in}
use Rattle.bsp_model.proofs.Inputs.{lawful_input}
use Rattle.bsp_step.specs.Act.{Act}
use Rattle.bsp_step.specs.Turn.{turn_of}
use Rattle.bsp_step.specs.OutcomeParts.{OutcomeParts}
use Rattle.bsp_step.specs.ViewParts.{ViewParts, IsView}
use Rattle.bsp_run.specs.Condition.{is_open}
use Rattle.bsp_run.specs.Run.{Run, advance, after_turns, after_delivery, open_views}
use Rattle.bsp_run.specs.TakingOver.{CanTakeOver, outcomes_there}
use Rattle.bsp_run.proofs.Runs.{open_phase, advance-delivers}
use Rattle.bsp_incr.specs.declared.compare.known_table.KnownTable.TheVariants.{AsBefore}
use Rattle.bsp_incr.specs.declared.reply.Update.{Update}
use Rattle.bsp_incr.specs.Inside.Before.{views_before, IsBefore}
use Rattle.bsp_incr.specs.Inside.Known.{KnowsTable}
use Rattle.bsp_incr.specs.Inside.Marks.{ViewsDifferAtMost}
use Rattle.bsp_incr.specs.Inside.UnderWay.{IsUnderWay}
use Rattle.bsp_incr.proofs.KnownTables.{knows_taken}
use Rattle.bsp_incr.proofs.Staying.{can_take_over, goes_on, left, staying, under_way_taken}

-- The open superstep can be taken over, and this is known then.
pub record IsTakenWhole (turn : ViewParts → OutcomeParts) (looks : ViewParts → ℕ → Bool) (j : Input) (before : Option Run) (old r : Run) (set : List Bool) (u : Update) : Type 0 where
  pub can : CanTakeOver old r
  pub tape : (q : Run) → q ≡ after_delivery (after_turns r (outcomes_there old r)) → q ≡ advance turn r
  pub under_way : (q : Run) → q ≡ after_delivery (after_turns r (outcomes_there old r)) → IsUnderWay turn looks before j q set u
  pub table : (q : Run) → q ≡ after_delivery (after_turns r (outcomes_there old r)) → KnowsTable before q AsBefore

-- So it is where nobody sees something else than in the previous run, and that run ended the superstep by delivery.
taken_from : (acts : ViewParts → List Act) (ending : ViewParts → End) (looks : ViewParts → ℕ → Bool) (j : Input) (old r : Run) (marks set : List Bool) (u : Update) → input_fault j ≡ None → IsBefore (turn_of acts ending) j (Some old) → is_open r.phase ≡ true → All IsView (open_views r)
    → IsUnderWay (turn_of acts ending) looks (Some old) j r marks u → length r.past < length old.past → processes_in set ≡ [] → ViewsDifferAtMost (views_before (Some old) (length r.past)) (open_views r) set → IsTakenWhole (turn_of acts ending) looks j (Some old) old r set u
taken_from acts ending looks j old r marks set u lawful k started within under past none differ =
    let turn = turn_of acts ending in
    let some = (lawful_input j lawful).some_process in
    let phase = open_phase r.phase started in
    let stays = staying turn j old r set k under.made started some past differ none in
    let made : (q : Run) → q ≡ after_delivery (after_turns r (outcomes_there old r)) → q ≡ after_delivery (after_turns r (map turn (open_views r))) =
    λ q is. is ∙ ap (λ (os : List OutcomeParts). after_delivery (after_turns r os)) (left turn k.input_before j old r stays) in
    let under_way : (q : Run) → q ≡ after_delivery (after_turns r (outcomes_there old r)) → IsUnderWay turn looks (Some old) j q set u =
    λ q is. under_way_taken turn looks j old r q marks set u k none differ.count stays under (made q is) in
    record {
      can = can_take_over acts ending k.input_before j old r stays.before under.made phase some k.stands within past stays.seen;
      tape = λ q is. made q is ∙ sym (advance-delivers turn r phase (goes_on turn k.input_before j old r stays));
      under_way = under_way;
      table = λ q is. knows_taken turn j old r q k stays (under_way q is).made (made q is);
    }

-- the same, where the previous run has another name
pub taken_whole : (acts : ViewParts → List Act) (ending : ViewParts → End) (looks : ViewParts → ℕ → Bool) (j : Input) (before : Option Run) (old r : Run) (marks set : List Bool) (u : Update) → before ≡ Some old → input_fault j ≡ None → IsBefore (turn_of acts ending) j before → is_open r.phase ≡ true → All IsView (open_views r)
    → IsUnderWay (turn_of acts ending) looks before j r marks u → length r.past < length old.past → processes_in set ≡ [] → ViewsDifferAtMost (views_before before (length r.past)) (open_views r) set → IsTakenWhole (turn_of acts ending) looks j before old r set u
taken_whole acts ending looks j before old r marks set u is lawful k started within under past none differ =
    let turn = turn_of acts ending in
    subst (λ (o : Option Run). IsTakenWhole turn looks j o old r set u) (sym is)
    (taken_from acts ending looks j old r marks set u lawful (subst (IsBefore turn j) is k) started within (subst (λ (o : Option Run). IsUnderWay turn looks o j r marks u) is under) past none
    (subst (λ (o : Option Run). ViewsDifferAtMost (views_before o (length r.past)) (open_views r) set) is differ))
