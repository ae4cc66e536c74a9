-- Runs of which no record is kept.
use Rattle.std.proofs.Common.{◌≡◌, ◌≤◌, ◌<◌, ◌+◌, ◌==◌, ◌++◌, ◌∷◌, ℕ, Bool, true, false, cond, List, [], map, length, Option, None, Some, refl, sym, ap, ◌∙◌, subst, arith, length-append}
use Rattle.std.specs.Prelude.{is_some, option_to_list}
use Rattle.std.specs.List.{range_with_len}
use Rattle.std.proofs.lemmas.Grind.{flat_map-append}
use Rattle.std.proofs.lemmas.Bool.Decides.{nat_tests}
use Rattle.std.proofs.lemmas.List.{map-append, append-nil, length-map}
use Rattle.std.proofs.lemmas.List.Concat.{flat_map-cons}
use Rattle.bsp_model.specs.declared.input.Input.{Input}
use Rattle.bsp_model.specs.declared.cost.CostRow.{CostRow}
use Rattle.bsp_model.specs.declared.fault.End.{End}
use Rattle.bsp_model.specs.Inside.LawfulInput.{IsLawfulInput}
use Rattle.bsp_table.specs.declared.area.Area.{Area}
use Rattle.bsp_step.specs.Act.{Act}
use Rattle.bsp_step.specs.Turn.{turn_of}
use Rattle.bsp_step.specs.ViewParts.{ViewParts}
use Rattle.bsp_step.specs.OutcomeParts.{OutcomeParts, outcome_of}
use Rattle.bsp_deliver.specs.Condition.{AreDeliverable}
use Rattle.bsp_deliver.specs.Requests.{each_below}
use Rattle.bsp_run.specs.declared.result.Status.{Status}
use Rattle.bsp_run.specs.declared.result.Status.TheVariants.{Halted, Limit, Faulted, SyncFaulted}
use Rattle.bsp_run.specs.declared.phase.Phase.TheVariants.{Open, Turned, Ended}
use Rattle.bsp_run.specs.declared.superstep.Superstep.{Superstep}
use Rattle.bsp_run.specs.declared.result.RunResult.{RunResult}
use Rattle.bsp_scratch.specs.declared.tally.Tally.{Tally}
use Rattle.bsp_scratch.specs.declared.unrecorded.Unrecorded.{Unrecorded}
use Rattle.bsp_run.specs.State.{State, first_state, next_state, views_of}
use Rattle.bsp_run.specs.Ending.{end_of}
use Rattle.bsp_run.specs.Supersteps.{outcomes_of, last_superstep, supersteps_of}
use Rattle.bsp_run.specs.Run.{Run, start, open_views, after_turns, after_delivery, phase_after, is_limit, advance, times, run}
use Rattle.bsp_run.specs.Setting.{next_views}
use Rattle.bsp_run.specs.Condition.{AreOutcomesOf, IsEnd, IsInPhase, IsTurned, is_turned, is_ended}
use Rattle.bsp_run.specs.Result.{status_in, status_of, memories_of, lines_of, lines_of_process, costs_of, cost_of_delivery, cost_of_end, total_of, result_of}
use Rattle.bsp_scratch.specs.Inside.Printed.{lines_and, lines_in, AreLinesAnd}
use Rattle.bsp_run.specs.Inside.Settings.{AreTurned, HaveTurns}
use Rattle.bsp_scratch.specs.Inside.Underway.{HasLeft}
use Rattle.bsp_scratch.specs.Inside.IsUnrecorded.{AreKept, IsUnrecorded, IsUnrecordedIn, HasEnded, AreTaken}
use Rattle.bsp_run.proofs.Lists.{each_below-agree}
use Rattle.bsp_run.proofs.Conditions.{length-views_of, count_of_outcomes, AreDeliverable-from_turns}
use Rattle.bsp_run.proofs.Laws.{supersteps-limit, outcomes-last, outcomes-ended}
use Rattle.bsp_run.proofs.Opens.{start_is_run, state_seen-views_of}
use Rattle.bsp_run.proofs.Phases.{turned_is_run, is_turned_run, next_is_run, count-next_state, end_of-limit}
use Rattle.bsp_run.proofs.Records.{superstep, past-delivered, IsRecord-start, IsRecord-goes_on}
use Rattle.bsp_run.proofs.Runs.{advance-delivers, advance-ends, times_more, times-closed, turns_closed}
use Rattle.bsp_run.proofs.Turns.{views_within, AreOutcomesOf-turns}

pub unrecorded_start : (input : Input) (ps : List ℕ) (vs : List ViewParts) (sums : Tally) → IsLawfulInput input → ps ≡ range_with_len 0 (length input.mems) → vs ≡ open_views (start input)
    → sums.g ≡ input.g → sums.l ≡ input.l → sums.lines.items ≡ [] → sums.costs ≡ [] → AreKept (start input) ps vs sums
unfolding start first_state
unrecorded_start input ps vs sums h ep ev eg el en ec =
    record {
      run = start_is_run input h;
      processes = ep;
      views = ev;
      g = eg;
      l = el;
      lines = λ p. ap (λ (printed : List (List (List (List ℕ)))). lines_in printed p) en;
      costs = ec;
    }

opened_while : (b : Bool) (n : ℕ) → (n == 0) ≡ b → 1 ≤ n → cond b (Ended Limit) Open ≡ Open
opened_while true n e some = absurd (let none : n ≡ 0 = grind (arith, nat_tests) in omega (arith, none, some))
opened_while false n e some = refl

pub underway_start : (turn : ViewParts → OutcomeParts) (input : Input) (n : ℕ) (vs : List ViewParts) (kept : Unrecorded) → n ≡ input.limit → 1 ≤ input.limit → IsUnrecorded (start input) vs kept → HasLeft turn input 0 n vs kept
unfolding run start
underway_start turn input n vs kept e h same =
    record {
      so_far = start input;
      count = refl;
      made = IsRecord-start turn input h;
      rest = ap (λ m. times m (advance turn) (start input)) e;
      left = omega (arith, e);
      phase = sym (opened_while (n == 0) n refl (omega (arith, e, h)));
      same = same;
    }

-- where a superstep is left, it is open
pub underway_open : (turn : ViewParts → OutcomeParts) (input : Input) (step n : ℕ) (vs : List ViewParts) (kept : Unrecorded) (u : HasLeft turn input step (n + 1) vs kept) → (u.so_far).phase ≡ Open
underway_open turn input step n vs kept u = u.phase ∙ opened_while ((n + 1) == 0) (n + 1) refl (omega arith)

-- the processes are those that the views are of
pub processes_are : (r : Run) (vs : List ViewParts) (kept : Unrecorded) → IsUnrecorded r vs kept → kept.processes.now ≡ range_with_len 0 (length vs)
processes_are r vs kept h = h.processes ∙ ap (range_with_len 0) (sym (length-views_of r.args (length r.past) r.state)) ∙ ap (λ (vs : List ViewParts). range_with_len 0 (length vs)) (sym h.views)

-- the outcomes that are made of the views that are kept
pub turns_are : (turn : ViewParts → OutcomeParts) (r : Run) (vs : List ViewParts) (kept : Unrecorded) (os : List OutcomeParts) → IsUnrecorded r vs kept → os ≡ map turn vs → os ≡ map turn (open_views r)
turns_are turn r vs kept os h made = made ∙ ap (map turn) h.views

pub have_turns : (acts : ViewParts → List Act) (ending : ViewParts → End) (r : Run) (vs : List ViewParts) (kept : Unrecorded) (os : List OutcomeParts) → IsUnrecorded r vs kept → r.phase ≡ Open → os ≡ map (turn_of acts ending) vs → HaveTurns r vs os
have_turns acts ending r vs kept os h e made =
    record {
      run = h.run;
      phase = e;
      views = h.views;
      turns = subst (AreOutcomesOf (open_views r)) (sym (turns_are (turn_of acts ending) r vs kept os h made)) (AreOutcomesOf-turns acts ending (open_views r) (views_within r h.run));
    }

phase_then : (r : Run) (os : List OutcomeParts) (end : Option Status) → end_of (length r.past) r.state.table os ≡ end → (after_turns r os).phase ≡ phase_after end
unfolding after_turns
phase_then r os end e = ap phase_after e

-- what is kept serves the run whose turns are taken
pub kept_then : (r : Run) (vs : List ViewParts) (kept now : Unrecorded) (os : List OutcomeParts) (end : Option Status) → IsUnrecorded r vs kept → HaveTurns r vs os → end_of (length r.past) r.state.table os ≡ end → now.processes.now ≡ kept.processes.now → now.tally ≡ kept.tally → IsUnrecordedIn (phase_after end) (after_turns r os) vs now os
unfolding after_turns
kept_then r vs kept now os end h have e ep et =
    record {
      same = record {
        run = turned_is_run r os h.run have.phase have.turns;
        processes = ep ∙ h.processes;
        views = h.views;
        g = ap (λ (sums : Tally). sums.g) et ∙ h.g;
        l = ap (λ (sums : Tally). sums.l) et ∙ h.l;
        lines = λ p. ap (λ (sums : Tally). lines_in sums.lines.items p) et ∙ h.lines p;
        costs = ap (λ (sums : Tally). sums.costs) et ∙ h.costs;
      };
      phase = phase_then r os end e;
      outcomes = refl;
    }

-- what is kept shows the run whose turns are taken
pub are_turned : (r : Run) (vs : List ViewParts) (kept : Unrecorded) (os : List OutcomeParts) → IsUnrecordedIn Turned r vs kept os → AreTurned r vs os
are_turned r vs kept os h = record { run = h.same.run; phase = h.phase; views = h.same.views; outcomes = h.outcomes }

-- there is an outcome of each process
pub as_many : (r : Run) (vs : List ViewParts) (kept : Unrecorded) (os : List OutcomeParts) → IsUnrecordedIn Turned r vs kept os → kept.processes.now ≡ range_with_len 0 (length os)
as_many r vs kept os h =
    let turned : IsTurned r = is_turned_run r h.same.run h.phase in
    h.same.processes ∙ ap (range_with_len 0) (sym (count_of_outcomes r.args (length r.past) r.state r.outcomes turned.turns)) ∙ ap (λ (us : List OutcomeParts). range_with_len 0 (length us)) h.outcomes

one_turn : (os : List OutcomeParts) (p : ℕ) → lines_of_process (os ∷ []) p ≡ (outcome_of os p).lines
one_turn os p = flat_map-cons (λ (us : List OutcomeParts). (outcome_of us p).lines) os [] ∙ append-nil ((outcome_of os p).lines)

-- the lines of one superstep more
pub lines_more : (turns : List (List OutcomeParts)) (os : List OutcomeParts) (printed : List (List (List (List ℕ)))) (p : ℕ) → lines_in printed p ≡ lines_of_process turns p → lines_and printed os p ≡ lines_of_process (turns ++ os ∷ []) p
lines_more turns os printed p e =
    ap (λ (xs : List (List ℕ)). xs ++ (outcome_of os p).lines) e
    ∙ ap (λ (xs : List (List ℕ)). lines_of_process turns p ++ xs) (sym (one_turn os p))
    ∙ sym (flat_map-append (λ (us : List OutcomeParts). (outcome_of us p).lines) turns (os ∷ []))

costs_more : (price : List OutcomeParts → CostRow) (past : List Superstep) (vs : List ViewParts) (os : List OutcomeParts) → map price (outcomes_of past) ++ price os ∷ [] ≡ map price (outcomes_of (past ++ record { views = vs; outcomes = os } ∷ []))
costs_more price past vs os =
    let of : Superstep → List OutcomeParts = λ s. s.outcomes in
    sym (ap (map price) (map-append of past (record { views = vs; outcomes = os } ∷ [])) ∙ map-append price (map of past) (os ∷ []))

-- What is kept after the next superstep has opened.
pub unrecorded_delivered : (r : Run) (os : List OutcomeParts) (old : Unrecorded) (ws : List ViewParts) (ps : List ℕ) (vs : List ViewParts) (sums : Tally) → IsUnrecordedIn Turned r ws old os → ps ≡ old.processes.now → vs ≡ next_views r → sums.g ≡ old.tally.g → sums.l ≡ old.tally.l
    → AreLinesAnd old.tally.lines.items os sums.lines.items → sums.costs ≡ old.tally.costs ++ cost_of_delivery old.tally.g old.tally.l os ∷ [] → AreKept (after_delivery r) ps vs sums
unfolding after_delivery
unrecorded_delivered r os old ws ps vs sums h ep ev eg el en ec =
    let turned : IsTurned r = is_turned_run r h.same.run h.phase in
    let of : Superstep → List OutcomeParts = λ s. s.outcomes in
    let one : List Superstep = record { views = open_views r; outcomes = r.outcomes } ∷ [] in
    let left : os ≡ r.outcomes = sym h.outcomes in
    record {
      run = next_is_run r h.same.run h.phase;
      processes = ep ∙ h.same.processes ∙ ap (range_with_len 0) (sym (count-next_state r.args (length r.past) r.state r.outcomes turned.turns));
      views = ev ∙ ap (λ n. views_of r.args n (next_state r.state r.outcomes)) (sym (length-append r.past one));
      g = eg ∙ h.same.g;
      l = el ∙ h.same.l;
      lines = λ p. en.each p ∙ lines_more (outcomes_of r.past) os old.tally.lines.items p (h.same.lines p) ∙ ap (λ (us : List OutcomeParts). lines_of_process (outcomes_of r.past ++ us ∷ []) p) left
          ∙ ap (λ (us : List (List OutcomeParts)). lines_of_process us p) (sym (map-append of r.past one));
      costs = ec ∙ ap (λ (rows : List CostRow). rows ++ cost_of_delivery old.tally.g old.tally.l os ∷ []) h.same.costs
          ∙ (λ i. map (cost_of_delivery r.g r.l) (outcomes_of r.past) ++ cost_of_delivery (h.same.g i) (h.same.l i) (left i) ∷ [])
          ∙ costs_more (cost_of_delivery r.g r.l) r.past (open_views r) r.outcomes;
    }

result_is : (r : Run) (status : Status) (lines : List (List (List ℕ))) (costs : List CostRow) → r.phase ≡ Ended status → is_limit (Ended status) ≡ false → lines ≡ each_below (length r.state.memories) (lines_of_process (outcomes_of r.past ++ r.outcomes ∷ []))
    → costs ≡ map (cost_of_delivery r.g r.l) (outcomes_of r.past) ++ cost_of_end r.outcomes ∷ [] → record { status = status; memories = map (λ (o : OutcomeParts). o.memory) r.outcomes; lines = lines; costs = costs; total = total_of costs } ≡ result_of r
unfolding result_of lines_of costs_of
result_is r status lines costs e n el ec =
    let off : is_limit r.phase ≡ false = ap is_limit e ∙ n in
    let st : status ≡ status_of r = sym (ap status_in e) in
    let ms : map (λ (o : OutcomeParts). o.memory) r.outcomes ≡ memories_of r = ap (λ b. cond b r.state.memories (map (λ (o : OutcomeParts). o.memory) r.outcomes)) (sym off) in
    let turns : outcomes_of r.past ++ r.outcomes ∷ [] ≡ outcomes_of (supersteps_of r) = sym (outcomes-ended r (ap is_ended e) ∙ ap (λ b. outcomes_of r.past ++ option_to_list (cond b None (Some r.outcomes))) off) in
    let last : r.outcomes ∷ [] ≡ outcomes_of (last_superstep r) = sym (outcomes-last r (ap is_ended e) ∙ ap (λ b. option_to_list (cond b None (Some r.outcomes))) off) in
    let ls = el ∙ ap (λ (os : List (List OutcomeParts)). each_below (length r.state.memories) (lines_of_process os)) turns in
    let cs = ec ∙ ap (λ (os : List (List OutcomeParts)). map (cost_of_delivery r.g r.l) (outcomes_of r.past) ++ map cost_of_end os) last in
    λ i. record { status = st i; memories = ms i; lines = ls i; costs = cs i; total = total_of (cs i) }

limit_result_is : (r : Run) (memories : List (List ℕ)) (lines : List (List (List ℕ))) (costs : List CostRow) → r.phase ≡ Ended Limit → memories ≡ r.state.memories → lines ≡ each_below (length r.state.memories) (lines_of_process (outcomes_of r.past))
    → costs ≡ map (cost_of_delivery r.g r.l) (outcomes_of r.past) → record { status = Limit; memories = memories; lines = lines; costs = costs; total = total_of costs } ≡ result_of r
unfolding result_of lines_of costs_of
limit_result_is r memories lines costs e em el ec =
    let on : is_limit r.phase ≡ true = ap is_limit e in
    let st : Limit ≡ status_of r = sym (ap status_in e) in
    let ms : memories ≡ memories_of r = em ∙ ap (λ b. cond b r.state.memories (map (λ (o : OutcomeParts). o.memory) r.outcomes)) (sym on) in
    let turns : outcomes_of r.past ≡ outcomes_of (supersteps_of r) = sym (ap outcomes_of (supersteps-limit r (ap is_ended e) on)) in
    let last : [] ≡ outcomes_of (last_superstep r) = sym (outcomes-last r (ap is_ended e) ∙ ap (λ b. option_to_list (cond b None (Some r.outcomes))) on) in
    let ls = el ∙ ap (λ (os : List (List OutcomeParts)). each_below (length r.state.memories) (lines_of_process os)) turns in
    let cs = ec ∙ sym (append-nil (map (cost_of_delivery r.g r.l) (outcomes_of r.past))) ∙ ap (λ (os : List (List OutcomeParts)). map (cost_of_delivery r.g r.l) (outcomes_of r.past) ++ map cost_of_end os) last in
    λ i. record { status = st i; memories = ms i; lines = ls i; costs = cs i; total = total_of (cs i) }

-- the limit is reached where no superstep is left
limit_test : (k n limit : ℕ) → k + (n + 1) ≡ limit → ((k + 1) == limit) ≡ (n == 0)
limit_test k n limit h = grind (arith, nat_tests)

left_next : (r : Run) (os : List OutcomeParts) (n : ℕ) → length r.past + (n + 1) ≡ r.limit → length (after_delivery (after_turns r os)).past + n ≡ (after_delivery (after_turns r os)).limit
unfolding after_turns after_delivery
left_next r os n h =
    let step : Superstep = record { views = open_views r; outcomes = os } in
    omega (arith, length-append r.past (step ∷ []), h)

phase_next : (r : Run) (os : List OutcomeParts) (n : ℕ) → length r.past + (n + 1) ≡ r.limit → (after_delivery (after_turns r os)).phase ≡ cond (n == 0) (Ended Limit) Open
unfolding after_turns after_delivery
phase_next r os n h = ap (λ b. cond b (Ended Limit) Open) (limit_test (length r.past) n r.limit h)

-- A run that its last superstep ended has outcomes of all views, and there was room for the superstep.
pub ended_so : (r : Run) (status : Status) → IsInPhase (Ended status) r → is_limit (Ended status) ≡ false → (length r.past < r.limit) × AreOutcomesOf (open_views r) r.outcomes
ended_so r Halted h n = let e : IsEnd r Halted = h in (e.room, e.turns)
ended_so r Limit h n = cc
ended_so r (Faulted step faults) h n = let e : IsEnd r (Faulted step faults) = h in (e.room, e.turns)
ended_so r (SyncFaulted step fault) h n = let e : IsEnd r (SyncFaulted step fault) = h in (e.room, e.turns)

-- there is a cost of each superstep that ended by delivery
pub rows_are : (r : Run) (vs : List ViewParts) (kept : Unrecorded) → IsUnrecorded r vs kept → length kept.tally.costs ≡ length r.past
rows_are r vs kept h =
    ap (λ (rows : List CostRow). length rows) h.costs ∙ length-map (outcomes_of r.past) (cost_of_delivery r.g r.l) ∙ length-map r.past (λ (s : Superstep). s.outcomes)

-- what is added up, with the status and the memories at the end
abbrev pub summed : Status → List (List ℕ) → Tally → RunResult
summed status memories sums =
    record { status = status; memories = memories; lines = each_below (length memories) (lines_in sums.lines.items); costs = sums.costs; total = total_of sums.costs }

-- What a run gives that its last superstep ended.
pub ended_result : (r : Run) (status : Status) (vs : List ViewParts) (kept : Unrecorded) (os : List OutcomeParts) (memories : List (List ℕ)) (sums : Tally) → IsUnrecordedIn (Ended status) r vs kept os → is_limit (Ended status) ≡ false
    → length os ≡ length r.state.memories → memories ≡ map (λ (o : OutcomeParts). o.memory) os → AreLinesAnd kept.tally.lines.items os sums.lines.items → sums.costs ≡ kept.tally.costs ++ cost_of_end os ∷ [] → summed status memories sums ≡ result_of r
ended_result r status vs kept os memories sums h n count em en ec =
    let left : os ≡ r.outcomes = sym h.outcomes in
    let turns : List (List OutcomeParts) = outcomes_of r.past ++ r.outcomes ∷ [] in
    let printed : ℕ → List (List ℕ) = lines_in sums.lines.items in
    let long : length memories ≡ length r.state.memories = ap (λ (ms : List (List ℕ)). length ms) em ∙ length-map os (λ (o : OutcomeParts). o.memory) ∙ count in
    let each : (p : ℕ) → p < length r.state.memories → printed p ≡ lines_of_process turns p =
    λ p l. en.each p ∙ lines_more (outcomes_of r.past) os kept.tally.lines.items p (h.same.lines p) ∙ ap (λ (us : List OutcomeParts). lines_of_process (outcomes_of r.past ++ us ∷ []) p) left in
    let lines = ap (λ k. each_below k printed) long ∙ each_below-agree (length r.state.memories) printed (lines_of_process turns) each in
    let rows : sums.costs ≡ map (cost_of_delivery r.g r.l) (outcomes_of r.past) ++ cost_of_end r.outcomes ∷ [] = ec ∙ (λ i. h.same.costs i ++ cost_of_end (left i) ∷ []) in
    let ms : memories ≡ map (λ (o : OutcomeParts). o.memory) r.outcomes = em ∙ ap (map (λ (o : OutcomeParts). o.memory)) left in
    let there : summed status memories sums ≡ record { status = status; memories = map (λ (o : OutcomeParts). o.memory) r.outcomes; lines = each_below (length memories) printed; costs = sums.costs; total = total_of sums.costs } =
    λ i. record { status = status; memories = ms i; lines = each_below (length memories) printed; costs = sums.costs; total = total_of sums.costs } in
    there ∙ result_is r status (each_below (length memories) printed) sums.costs h.phase n lines rows

-- What a run gives that ended at the limit.
pub limit_result : (r : Run) (vs : List ViewParts) (kept : Unrecorded) (os : List OutcomeParts) (memories : List (List ℕ)) (sums : Tally) → IsUnrecordedIn (Ended Limit) r vs kept os → memories ≡ map (λ (v : ViewParts). v.memory) vs → sums ≡ kept.tally → summed Limit memories sums ≡ result_of r
limit_result r vs kept os memories sums h em es =
    let seen = em ∙ ap (map (λ (v : ViewParts). v.memory)) h.same.views ∙ ap (λ (s : State). s.memories) (state_seen-views_of r.args (length r.past) r.state h.same.run.state.same_count) in
    let printed : ℕ → List (List ℕ) = lines_in kept.tally.lines.items in
    let lines = ap (λ (ms : List (List ℕ)). each_below (length ms) printed) seen ∙ each_below-agree (length r.state.memories) printed (lines_of_process (outcomes_of r.past)) (λ p l. h.same.lines p) in
    ap (summed Limit memories) es ∙ limit_result_is r memories (each_below (length memories) printed) kept.tally.costs h.phase seen lines h.same.costs

-- no superstep ends at the limit before its delivery
pub no_limit : (status : Status) (step : ℕ) (slots : List (List Area)) (os : List OutcomeParts) → end_of step slots os ≡ Some status → is_limit (Ended status) ≡ false
no_limit Halted step slots os e = refl
no_limit Limit step slots os e = absurd (end_of-limit step slots os e)
no_limit (Faulted s faults) step slots os e = refl
no_limit (SyncFaulted s fault) step slots os e = refl

-- the turns of the open superstep are taken
abbrev pub turned_so : (ViewParts → OutcomeParts) → Run → Run
turned_so turn r = after_turns r (map turn (open_views r))

taken_by : (e : Option Status) (r t : Run) (vs : List ViewParts) (now : Unrecorded) → now.end ≡ e → end_of (length r.past) r.state.table now.taken.outcomes ≡ e → IsUnrecordedIn (phase_after e) t vs now now.taken.outcomes → AreTaken (is_some e) t vs now
taken_by None r t vs now e ends h = (e, h)
taken_by (Some status) r t vs now e ends h =
    (ap is_turned h.phase, subst (λ (o : Option Status). HasEnded o t vs now) (sym e) (h, no_limit status (length r.past) r.state.table now.taken.outcomes ends))

-- The turns that are gathered are those of the views, and what is kept beside them serves the run.
pub taken_on : (turn : ViewParts → OutcomeParts) (r : Run) (vs : List ViewParts) (kept now : Unrecorded) → IsUnrecorded r vs kept → HaveTurns r vs now.taken.outcomes → now.taken.outcomes ≡ map turn vs → now.end ≡ end_of (length r.past) r.state.table now.taken.outcomes
    → now.processes.now ≡ kept.processes.now → now.tally ≡ kept.tally → AreTaken (is_some now.end) (turned_so turn r) vs now
taken_on turn r vs kept now h have made ends ep et =
    let os : List OutcomeParts = now.taken.outcomes in
    taken_by now.end r (turned_so turn r) vs now refl (sym ends)
    (subst (λ (us : List OutcomeParts). IsUnrecordedIn (phase_after now.end) (after_turns r us) vs now os) (turns_are turn r vs kept os h made) (kept_then r vs kept now os now.end h have (sym ends) ep et))

-- The next superstep has opened, or the limit is reached.
pub underway_next : (turn : ViewParts → OutcomeParts) (input : Input) (step n : ℕ) (vs ws : List ViewParts) (old new : Unrecorded) (u : HasLeft turn input step (n + 1) vs old) → (turned_so turn u.so_far).phase ≡ Turned
    → IsUnrecorded (after_delivery (turned_so turn u.so_far)) ws new → HasLeft turn input (step + 1) n ws new
underway_next turn input step n vs ws old new u turned same =
    let r : Run = u.so_far in
    let os : List OutcomeParts = map turn (open_views r) in
    let next : advance turn r ≡ after_delivery (turned_so turn r) = advance-delivers turn r (underway_open turn input step n vs old u) (ap is_turned turned) in
    record {
      so_far = after_delivery (turned_so turn r);
      count = ap (λ (ss : List Superstep). length ss) (past-delivered r os) ∙ length-append r.past (superstep (open_views r) os ∷ []) ∙ ap (λ k. k + 1) u.count;
      made = IsRecord-goes_on turn input r u.made (underway_open turn input step n vs old u) (ap is_turned turned);
      rest = ap (times n (advance turn)) (sym next) ∙ sym (times_more turn (n + 1) n r (omega arith)) ∙ u.rest;
      left = left_next r (map turn (open_views r)) n u.left;
      phase = phase_next r (map turn (open_views r)) n u.left;
      same = same;
    }

-- The run that ended with this superstep is the whole run.
pub ended_is_run : (turn : ViewParts → OutcomeParts) (input : Input) (step n : ℕ) (vs : List ViewParts) (kept : Unrecorded) (u : HasLeft turn input step (n + 1) vs kept) → is_turned (turned_so turn u.so_far).phase ≡ false → turned_so turn u.so_far ≡ run turn input
ended_is_run turn input step n vs kept u closed =
    let r : Run = u.so_far in
    let next : advance turn r ≡ turned_so turn r = advance-ends turn r (underway_open turn input step n vs kept u) closed in
    sym (times-closed turn n (turned_so turn r) (turns_closed r (map turn (open_views r)))) ∙ ap (times n (advance turn)) (sym next) ∙ sym (times_more turn (n + 1) n r (omega arith)) ∙ u.rest

-- So is the run with no superstep left.
pub limit_is_run : (turn : ViewParts → OutcomeParts) (input : Input) (step n : ℕ) (vs : List ViewParts) (kept : Unrecorded) → HasLeft turn input step n vs kept → n ≡ 0 → kept.end ≡ None → HasEnded kept.end (run turn input) vs kept
limit_is_run turn input step n vs kept u z none =
    let r : Run = u.so_far in
    let whole : r ≡ run turn input = sym (ap (λ k. times k (advance turn) r) z) ∙ u.rest in
    let limit : IsUnrecordedIn (Ended Limit) r vs kept r.outcomes = record { same = u.same; phase = u.phase ∙ ap (λ k. cond (k == 0) (Ended Limit) Open) z; outcomes = refl } in
    subst (λ (o : Option Status). HasEnded o (run turn input) vs kept) (sym none) (subst (λ (x : Run). IsUnrecordedIn (Ended Limit) x vs kept x.outcomes) whole limit)

-- the outcomes of a run whose turns are taken can be delivered
pub deliverable_turned : (r : Run) (vs : List ViewParts) (os : List OutcomeParts) → AreTurned r vs os → AreDeliverable os
deliverable_turned r vs os t = subst AreDeliverable t.outcomes (AreDeliverable-from_turns r.args (length r.past) r.state r.outcomes t.run.state (is_turned_run r t.run t.phase).turns)
