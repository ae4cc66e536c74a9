-- A run that has ended is a run in the words of BSP.
use Rattle.std.proofs.Common.{◌≡◌, ◌≤◌, ◌<◌, ◌+◌, ◌-◌, ℕ, zero, suc, Bool, true, false, cond, List, [], ◌∷◌, ◌++◌, Option, None, Some, All, map, length, unwrap_or, not, arith, refl, sym, ap, ◌∙◌, subst, length-append, inl, inr}
use Rattle.std.specs.Prelude.{IfSome, option_map, option_to_list, slice_get}
use Rattle.std.proofs.lemmas.Option.{slice_get_past}
use Rattle.std.proofs.lemmas.Bool.{cases_lt, false≢true}
use Rattle.std.proofs.lemmas.Grind.{common_steps}
use Rattle.std.proofs.lemmas.List.{append-nil, length-map, map-append}
use Rattle.bsp_model.specs.declared.input.Input.{Input}
use Rattle.bsp_model.specs.Input.{input_fault}
use Rattle.bsp_model.proofs.Inputs.{lawful_input}
use Rattle.bsp_step.specs.ViewParts.{ViewParts}
use Rattle.bsp_step.specs.OutcomeParts.{OutcomeParts}
use Rattle.bsp_run.specs.declared.result.Status.TheVariants.{Halted, Limit, Faulted, SyncFaulted}
use Rattle.bsp_run.specs.declared.phase.Phase.{Phase}
use Rattle.bsp_run.specs.declared.phase.Phase.TheVariants.{Open, Turned, Ended}
use Rattle.bsp_run.specs.declared.superstep.Superstep.{Superstep}
use Rattle.bsp_run.specs.Run.{Run, start, open_views, advance, times, run, is_limit}
use Rattle.bsp_run.specs.Supersteps.{no_superstep, superstep_at, outcomes_of, open_superstep, has_turns, last_superstep, supersteps_of, supersteps_opened}
use Rattle.bsp_run.specs.Law.{views_in, outcomes_in, end_in, IsBspRun}
use Rattle.bsp_run.specs.Inside.Record.{IsRecord, IsEndIn}
use Rattle.bsp_run.specs.Condition.{is_ended, IsRun, IsInPhase, AreOutcomesOf}
use Rattle.bsp_deliver.specs.Condition.{AreDeliverable}
use Rattle.bsp_run.proofs.Conditions.{AreDeliverable-from_turns}
use Rattle.bsp_run.specs.Inside.Left.{IsBetween}
use Rattle.bsp_run.proofs.Runs.{start-between, advance-between, ended-between}
use Rattle.bsp_run.proofs.Records.{IsRecord-run}

-- a place past the last of these supersteps
pub superstep_at-past_end : (ss : List Superstep) (s : ℕ) → length ss ≤ s → superstep_at ss s ≡ no_superstep
superstep_at-past_end ss s l = grind (arith, common_steps)

-- the run ended at the limit
pub limit_phase : (p : Phase) → is_limit p ≡ true → p ≡ Ended Limit
limit_phase Open h = cc
limit_phase Turned h = cc
limit_phase (Ended Limit) h = refl
limit_phase (Ended Halted) h = cc
limit_phase (Ended (Faulted step faults)) h = cc
limit_phase (Ended (SyncFaulted step fault)) h = cc

has_turns-ended : (p : Phase) → is_ended p ≡ true → has_turns p ≡ not (is_limit p)
has_turns-ended Open h = cc
has_turns-ended Turned h = cc
has_turns-ended (Ended status) h = refl

-- at the limit all supersteps ended by delivery
pub supersteps-limit : (r : Run) → is_ended r.phase ≡ true → is_limit r.phase ≡ true → supersteps_of r ≡ r.past
supersteps-limit r e b = ap (λ t. r.past ++ cond t (open_superstep r ∷ []) []) (has_turns-ended r.phase e ∙ ap not b) ∙ append-nil r.past

-- else the turns of all that were opened were taken
pub supersteps-ended : (r : Run) → is_ended r.phase ≡ true → is_limit r.phase ≡ false → supersteps_of r ≡ supersteps_opened r
supersteps-ended r e b = ap (λ t. r.past ++ cond t (open_superstep r ∷ []) []) (has_turns-ended r.phase e ∙ ap not b)

taken_if : (b : Bool) (past : List Superstep) (x : Superstep) (s : ℕ) → s < length (past ++ cond b (x ∷ []) []) → (s ≤ length past) × (superstep_at (past ++ cond b (x ∷ []) []) s ≡ superstep_at (past ++ x ∷ []) s)
taken_if true past x s l = (omega (arith, l, length-append past (x ∷ [])), refl)
taken_if false past x s l =
    let before : s < length past = omega (arith, l, ap (λ (xs : List Superstep). length xs) (append-nil past)) in
    let front : superstep_at past s ≡ superstep_at (past ++ x ∷ []) s = grind (arith, common_steps) in
    (omega (arith, before), ap (λ (xs : List Superstep). superstep_at xs s) (append-nil past) ∙ front)

-- a superstep whose turns were taken was opened
pub taken-opened : (r : Run) (s : ℕ) → s < length (supersteps_of r) → (s ≤ length r.past) × (superstep_at (supersteps_of r) s ≡ superstep_at (supersteps_opened r) s)
taken-opened r s l = taken_if (has_turns r.phase) r.past (open_superstep r) s l

-- the outcomes of a superstep are the turns of its views
pub taken_outcomes : (turn : ViewParts → OutcomeParts) (ss : List Superstep) (s : ℕ) → All (λ x. x.outcomes ≡ map turn x.views) ss → (superstep_at ss s).outcomes ≡ map turn (superstep_at ss s).views
taken_outcomes turn ss s h =
    elim (cases_lt s (length ss)) [
      | inl w ↦ h s no_superstep w
      | inr w ↦ subst (λ (x : Superstep). x.outcomes ≡ map turn x.views) (sym (superstep_at-past_end ss s w)) refl
    ]

-- how the last superstep ended the run
record IsLastEnd (turn : ViewParts → OutcomeParts) (input : Input) (past : ℕ) (p : Phase) : Type 0 where
  pub cut : is_limit p ≡ true → past ≡ input.limit
  pub ends : is_limit p ≡ false → p ≡ Ended (unwrap_or (end_in turn input past) Limit)

last_end : (turn : ViewParts → OutcomeParts) (input : Input) (past : ℕ) (p : Phase) → is_ended p ≡ true → IsEndIn turn input past p → IsLastEnd turn input past p
last_end turn input past Open h e = cc
last_end turn input past Turned h e = cc
last_end turn input past (Ended Limit) h e = record { cut = λ _. e; ends = λ k. cc }
last_end turn input past (Ended Halted) h e = record { cut = λ k. cc; ends = λ _. ap (λ o. Ended (unwrap_or o Limit)) (sym e) }
last_end turn input past (Ended (Faulted step faults)) h e = record { cut = λ k. cc; ends = λ _. ap (λ o. Ended (unwrap_or o Limit)) (sym e) }
last_end turn input past (Ended (SyncFaulted step fault)) h e = record { cut = λ k. cc; ends = λ _. ap (λ o. Ended (unwrap_or o Limit)) (sym e) }

-- the views and outcomes of the superstep s that was taken
record IsTaken (turn : ViewParts → OutcomeParts) (input : Input) (x : Superstep) (s : ℕ) : Type 0 where
  pub views : x.views ≡ views_in turn input s
  pub outcomes : x.outcomes ≡ outcomes_in turn input s

taken : (turn : ViewParts → OutcomeParts) (input : Input) (r : Run) → IsRecord turn input r → (s : ℕ) → s < length (supersteps_of r) → IsTaken turn input (superstep_at (supersteps_of r) s) s
taken turn input r h s l =
    let at = taken-opened r s l in
    let views = ap (λ (x : Superstep). x.views) at.1 ∙ h.views s at.0 in
    record { views = views; outcomes = taken_outcomes turn (supersteps_of r) s h.turns ∙ ap (map turn) views }

law_cut : (turn : ViewParts → OutcomeParts) (input : Input) (r : Run) → 1 ≤ input.limit → IsRecord turn input r → is_ended r.phase ≡ true → is_limit r.phase ≡ true → IsBspRun turn input r
law_cut turn input r some h e b =
    let count : length (supersteps_of r) ≡ length r.past = ap (λ (xs : List Superstep). length xs) (supersteps-limit r e b) in
    let full = (last_end turn input (length r.past) r.phase e h.end).cut b in
    let last : end_in turn input (length (supersteps_of r) - 1) ≡ None = h.goes_on (length (supersteps_of r) - 1) (omega (arith, full)) in
    record {
      args = h.args;
      limit = h.limit;
      g = h.g;
      l = h.l;
      some = omega (arith, full);
      few = omega (arith, full);
      views = λ s l. (taken turn input r h s l).views;
      outcomes = λ s l. (taken turn input r h s l).outcomes;
      goes_on = λ s l. h.goes_on s (omega arith);
      phase = limit_phase r.phase b ∙ ap (λ o. Ended (unwrap_or o Limit)) (sym last);
      cut = λ _. count ∙ full;
      state = h.state;
      untaken = λ _. h.untaken b;
    }

law_ended : (turn : ViewParts → OutcomeParts) (input : Input) (r : Run) → IsRecord turn input r → is_ended r.phase ≡ true → is_limit r.phase ≡ false → IsBspRun turn input r
law_ended turn input r h e b =
    let count : length (supersteps_of r) ≡ length r.past + 1 = ap (λ (xs : List Superstep). length xs) (supersteps-ended r e b) ∙ length-append r.past (open_superstep r ∷ []) in
    let end = (last_end turn input (length r.past) r.phase e h.end).ends b in
    let at : length (supersteps_of r) - 1 ≡ length r.past = omega arith in
    record {
      args = h.args;
      limit = h.limit;
      g = h.g;
      l = h.l;
      some = omega arith;
      few = omega (arith, h.room b);
      views = λ s l. (taken turn input r h s l).views;
      outcomes = λ s l. (taken turn input r h s l).outcomes;
      goes_on = λ s l. h.goes_on s (omega arith);
      phase = end ∙ ap (λ n. Ended (unwrap_or (end_in turn input n) Limit)) (sym at);
      cut = λ k. absurd (false≢true (sym b ∙ ap is_limit k));
      state = h.state;
      untaken = λ k. absurd (false≢true (sym b ∙ ap is_limit k));
    }

law_by : (b : Bool) (turn : ViewParts → OutcomeParts) (input : Input) (r : Run) → 1 ≤ input.limit → IsRecord turn input r → is_ended r.phase ≡ true → is_limit r.phase ≡ b → IsBspRun turn input r
law_by true turn input r some h e b = law_cut turn input r some h e b
law_by false turn input r some h e b = law_ended turn input r h e b

times_between : (turn : ViewParts → OutcomeParts) (n : ℕ) (r : Run) → IsBetween n r → IsBetween 0 (times n (advance turn) r)
times_between turn zero r h = h
times_between turn (suc n) r h = times_between turn n (advance turn r) (advance-between turn n r h)

run_ended : (turn : ViewParts → OutcomeParts) (input : Input) → 1 ≤ input.limit → is_ended (run turn input).phase ≡ true
unfolding run
run_ended turn input some = ended-between (run turn input) (times_between turn input.limit (start input) (start-between input some))

-- The run of a lawful input.
pub IsBspRun-run : (turn : ViewParts → OutcomeParts) (input : Input) → input_fault input ≡ None → IsBspRun turn input (run turn input)
IsBspRun-run turn input lawful =
    let some = (lawful_input input lawful).some_superstep in
    law_by (is_limit (run turn input).phase) turn input (run turn input) some (IsRecord-run turn input some) (run_ended turn input some) refl

-- The turns that ended a run could have been delivered.
turns_at_end : (p : Phase) (r : Run) → IsInPhase p r → is_ended p ≡ true → is_limit p ≡ false → AreOutcomesOf (open_views r) r.outcomes
turns_at_end Open r h e l = cc
turns_at_end Turned r h e l = cc
turns_at_end (Ended Limit) r h e l = cc
turns_at_end (Ended Halted) r h e l = h.turns
turns_at_end (Ended (Faulted step faults)) r h e l = h.turns
turns_at_end (Ended (SyncFaulted step fault)) r h e l = h.turns

deliverable_if : (b : Bool) (r : Run) → IsRun r → is_ended r.phase ≡ true → is_limit r.phase ≡ b → (o : Option (List OutcomeParts)) → o ≡ cond b None (Some r.outcomes) → IfSome o AreDeliverable
deliverable_if true r h e l None is = tt
deliverable_if true r h e l (Some os) is = cc
deliverable_if false r h e l None is = tt
deliverable_if false r h e l (Some os) is =
    let same : os ≡ r.outcomes = cc in
    subst AreDeliverable (sym same) (AreDeliverable-from_turns r.args (length r.past) r.state r.outcomes h.state (turns_at_end r.phase r h.phase e l))

pub last_deliverable : (r : Run) → IsRun r → is_ended r.phase ≡ true → (o : Option (List OutcomeParts)) → o ≡ cond (is_limit r.phase) None (Some r.outcomes) → IfSome o AreDeliverable
last_deliverable r h e o is = deliverable_if (is_limit r.phase) r h e refl o is

pub IfSome-map : {X Y : Type 0} (f : X → Y) (P : Y → Type 0) (o : Option X) → IfSome (option_map f o) P → IfSome o (λ x. P (f x))
IfSome-map f P None h = tt
IfSome-map f P (Some x) h = h

few_if : (b : Bool) (past : List Superstep) (x : Superstep) → length (past ++ cond b (x ∷ []) []) ≤ length past + 1
few_if true past x = omega (arith, length-append past (x ∷ []))
few_if false past x = omega (arith, length-append past [])

-- no turns were taken past the last superstep
pub no_turns : (r : Run) (s : ℕ) → length r.past < s → None ≡ slice_get (outcomes_of (supersteps_of r)) s
no_turns r s l =
    let few = few_if (has_turns r.phase) r.past (open_superstep r) in
    let all : length (outcomes_of (supersteps_of r)) ≡ length (supersteps_of r) = length-map (supersteps_of r) (λ (x : Superstep). x.outcomes) in
    sym (slice_get_past (outcomes_of (supersteps_of r)) s (omega (arith, l, few, all)))

last_if : (b : Bool) (x : Superstep) → outcomes_of (cond (not b) (x ∷ []) []) ≡ option_to_list (cond b None (Some x.outcomes))
last_if true x = refl
last_if false x = refl

-- the outcomes of the superstep that ended the run; at the limit there is none such
pub outcomes-last : (r : Run) → is_ended r.phase ≡ true → outcomes_of (last_superstep r) ≡ option_to_list (cond (is_limit r.phase) None (Some r.outcomes))
outcomes-last r e = ap (λ b. outcomes_of (cond b (open_superstep r ∷ []) [])) (has_turns-ended r.phase e) ∙ last_if (is_limit r.phase) (open_superstep r)

-- the outcomes of all supersteps
pub outcomes-ended : (r : Run) → is_ended r.phase ≡ true → outcomes_of (supersteps_of r) ≡ outcomes_of r.past ++ option_to_list (cond (is_limit r.phase) None (Some r.outcomes))
outcomes-ended r e = map-append (λ (x : Superstep). x.outcomes) r.past (last_superstep r) ∙ ap (λ os. outcomes_of r.past ++ os) (outcomes-last r e)
