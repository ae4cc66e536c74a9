-- What a run gives, by its supersteps.
use Rattle.std.proofs.Common.{◌≡◌, ◌<◌, ℕ, suc, true, false, cond, List, [], ◌∷◌, ◌++◌, map, length, get_or, arith, refl, sym, ap, ◌∙◌, length-append}
use Rattle.std.proofs.lemmas.List.{get_or-map, length-map}
use Rattle.std.proofs.lemmas.List.FromFn.{get_or-map-range_with_len, length-map-range_with_len}
use Rattle.bsp_model.specs.declared.input.Input.{Input}
use Rattle.bsp_model.specs.declared.cost.CostRow.{CostRow}
use Rattle.bsp_step.specs.ViewParts.{ViewParts}
use Rattle.bsp_step.specs.OutcomeParts.{OutcomeParts, no_outcome, outcome_of}
use Rattle.bsp_run.specs.declared.result.Status.TheVariants.{Halted, Limit, Faulted, SyncFaulted}
use Rattle.bsp_run.specs.declared.phase.Phase.{Phase}
use Rattle.bsp_run.specs.declared.phase.Phase.TheVariants.{Open, Turned, Ended}
use Rattle.bsp_run.specs.declared.superstep.Superstep.{Superstep}
use Rattle.bsp_run.specs.State.{State}
use Rattle.bsp_run.specs.Run.{Run, is_limit}
use Rattle.bsp_run.specs.Supersteps.{no_superstep, outcomes_of, last_superstep, supersteps_of}
use Rattle.bsp_run.specs.Law.{views_in, outcomes_in, IsBspRun}
use Rattle.bsp_run.specs.Condition.{no_view, is_ended}
use Rattle.bsp_run.specs.Result.{status_of, status_in, memories_of, lines_of, lines_of_process, costs_of, cost_of_delivery, cost_of_end, total_of, result_of}
use Rattle.bsp_run.proofs.Records.{count-state_at, count-outcomes_in}
use Rattle.bsp_run.proofs.OneRun.{last_one}
use Rattle.bsp_incr.proofs.Propagation.{view-in}
use Rattle.bsp_engine.specs.Untouched.{at_limit}

-- the supersteps of a run, and its turns

pub turns_at : (turn : ViewParts → OutcomeParts) (i : Input) (r : Run) (s : ℕ) → IsBspRun turn i r → s < length (supersteps_of r) → get_or (outcomes_of (supersteps_of r)) s [] ≡ outcomes_in turn i s
turns_at turn i r s h l = get_or-map (λ (x : Superstep). x.outcomes) (supersteps_of r) s no_superstep [] l ∙ h.outcomes s l

pub count_turns : (r : Run) → length (outcomes_of (supersteps_of r)) ≡ length (supersteps_of r)
count_turns r = length-map (supersteps_of r) (λ (s : Superstep). s.outcomes)

-- as many rows as supersteps
count_costs : (r : Run) → length (costs_of r) ≡ length (supersteps_of r)
unfolding costs_of
count_costs r =
    omega (
      arith,
      length-append (map (cost_of_delivery r.g r.l) (outcomes_of r.past)) (map cost_of_end (outcomes_of (last_superstep r))),
      length-map (outcomes_of r.past) (cost_of_delivery r.g r.l),
      length-map (outcomes_of (last_superstep r)) cost_of_end,
      length-map r.past (λ (s : Superstep). s.outcomes),
      length-map (last_superstep r) (λ (s : Superstep). s.outcomes),
      length-append r.past (last_superstep r),
    )

pub limit_is : (p : Phase) → is_ended p ≡ true → is_limit p ≡ at_limit (status_in p)
limit_is Open h = cc
limit_is Turned h = cc
limit_is (Ended Limit) h = refl
limit_is (Ended Halted) h = refl
limit_is (Ended (Faulted step faults)) h = refl
limit_is (Ended (SyncFaulted step fault)) h = refl

-- the outcomes that ended a run
ending_turns : (turn : ViewParts → OutcomeParts) (i : Input) (r : Run) → IsBspRun turn i r → is_limit r.phase ≡ false → r.outcomes ≡ outcomes_in turn i (length r.past)
ending_turns turn i r h b = let last = last_one r (ap is_ended h.phase) b in sym last.1 ∙ h.outcomes (length r.past) last.0

-- what a process has at the end of a run

pub memory-cut : (turn : ViewParts → OutcomeParts) (i : Input) (r : Run) (p : ℕ) → IsBspRun turn i r → p < length i.mems → is_limit r.phase ≡ true → get_or (memories_of r) p [] ≡ (get_or (views_in turn i (length r.past)) p no_view).memory
memory-cut turn i r p h l b =
    ap (λ c. get_or (cond c r.state.memories (map (λ (o : OutcomeParts). o.memory) r.outcomes)) p []) b ∙ ap (λ (x : State). get_or x.memories p []) h.state
    ∙ sym (ap (λ (v : ViewParts). v.memory) (view-in turn i (length r.past) p l))

pub memory-stopped : (turn : ViewParts → OutcomeParts) (i : Input) (r : Run) (p : ℕ) → IsBspRun turn i r → p < length i.mems → is_limit r.phase ≡ false → get_or (memories_of r) p [] ≡ (outcome_of (outcomes_in turn i (length r.past)) p).memory
memory-stopped turn i r p h l b =
    ap (λ c. get_or (cond c r.state.memories (map (λ (o : OutcomeParts). o.memory) r.outcomes)) p []) b
    ∙ ap (λ (os : List OutcomeParts). get_or (map (λ (o : OutcomeParts). o.memory) os) p []) (ending_turns turn i r h b)
    ∙ get_or-map (λ (o : OutcomeParts). o.memory) (outcomes_in turn i (length r.past)) p no_outcome [] (omega (arith, l, count-outcomes_in turn i (length r.past)))

count_state : (turn : ViewParts → OutcomeParts) (i : Input) (r : Run) → IsBspRun turn i r → length r.state.memories ≡ length i.mems
count_state turn i r h = ap (λ (x : State). length x.memories) h.state ∙ count-state_at turn i (length r.past)

pub count_memories : (turn : ViewParts → OutcomeParts) (i : Input) (r : Run) → IsBspRun turn i r → length (memories_of r) ≡ length i.mems
count_memories turn i r h =
    elim (is_limit r.phase) as (λ b. is_limit r.phase ≡ b → length (memories_of r) ≡ length i.mems) [
      | true ↦ λ b. ap (λ c. length (cond c r.state.memories (map (λ (o : OutcomeParts). o.memory) r.outcomes))) b ∙ count_state turn i r h
      | false ↦ λ b.
          ap (λ c. length (cond c r.state.memories (map (λ (o : OutcomeParts). o.memory) r.outcomes))) b ∙ length-map r.outcomes (λ (o : OutcomeParts). o.memory)
          ∙ ap (λ (os : List OutcomeParts). length os) (ending_turns turn i r h b) ∙ count-outcomes_in turn i (length r.past)
    ] refl

pub count_lines : (turn : ViewParts → OutcomeParts) (i : Input) (r : Run) → IsBspRun turn i r → length (lines_of r) ≡ length i.mems
unfolding lines_of
count_lines turn i r h = length-map-range_with_len (lines_of_process (outcomes_of (supersteps_of r))) 0 (length r.state.memories) ∙ count_state turn i r h

pub lines-at : (turn : ViewParts → OutcomeParts) (i : Input) (r : Run) (p : ℕ) → IsBspRun turn i r → p < length i.mems → get_or (lines_of r) p [] ≡ lines_of_process (outcomes_of (supersteps_of r)) p
unfolding lines_of
lines-at turn i r p h l =
    get_or-map-range_with_len (lines_of_process (outcomes_of (supersteps_of r))) 0 (length r.state.memories) p p [] (omega (arith, l, count_state turn i r h)) (omega arith)

pub lines_same : (xs ys : List (List OutcomeParts)) (p : ℕ) → length xs ≡ length ys → ((k : ℕ) → k < length xs → outcome_of (get_or xs k []) p ≡ outcome_of (get_or ys k []) p) → lines_of_process xs p ≡ lines_of_process ys p
lines_same [] [] p long same = refl
lines_same [] (y ∷ ys) p long same = absurd (omega (arith, long))
lines_same (x ∷ xs) [] p long same = absurd (omega (arith, long))
lines_same (x ∷ xs) (y ∷ ys) p long same =
    ap (λ (o : OutcomeParts). o.lines ++ lines_of_process xs p) (same 0 (omega arith))
    ∙ ap (λ ls. (outcome_of y p).lines ++ ls) (lines_same xs ys p (omega (arith, long)) (λ k l. same (suc k) (omega arith)))

-- results

pub record Parts (r : Run) : Type 0 where
  pub status : (result_of r).status ≡ status_of r
  pub memories : (result_of r).memories ≡ memories_of r
  pub lines : (result_of r).lines ≡ lines_of r
  pub costs : (result_of r).costs ≡ costs_of r
  pub total : (result_of r).total ≡ total_of (costs_of r)

pub parts : (r : Run) → Parts r
unfolding result_of
parts r = record { status = refl; memories = refl; lines = refl; costs = refl; total = refl }

pub count_result_memories : (turn : ViewParts → OutcomeParts) (i : Input) (r : Run) → IsBspRun turn i r → length (result_of r).memories ≡ length i.mems
count_result_memories turn i r h = ap (λ (ms : List (List ℕ)). length ms) (parts r).memories ∙ count_memories turn i r h

pub count_result_lines : (turn : ViewParts → OutcomeParts) (i : Input) (r : Run) → IsBspRun turn i r → length (result_of r).lines ≡ length i.mems
count_result_lines turn i r h = ap (λ (ls : List (List (List ℕ))). length ls) (parts r).lines ∙ count_lines turn i r h

pub rows_of : (r : Run) → length (result_of r).costs ≡ length (supersteps_of r)
rows_of r = ap (λ (rows : List CostRow). length rows) (parts r).costs ∙ count_costs r
