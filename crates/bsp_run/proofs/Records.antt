-- Runs have their records.
use Rattle.std.proofs.Common.{◌≡◌, ◌≤◌, ◌<◌, ◌+◌, ◌==◌, ℕ, zero, suc, Bool, true, false, cond, List, [], ◌∷◌, ◌++◌, Option, None, Some, All, map, length, arith, refl, sym, ap, ◌∙◌, subst, length-append, inl, inr, add-one}
use Rattle.std.proofs.lemmas.Bool.{cases_lt}
use Rattle.std.proofs.lemmas.Bool.Decides.{nat_tests}
use Rattle.std.proofs.lemmas.List.{length-map, append-nil}
use Rattle.std.proofs.lemmas.List.FromFn.{length-map-range_with_len}
use Rattle.std.proofs.lemmas.List.Elements.{All-push, All-nil}
use Rattle.std.proofs.lemmas.Grind.{common_steps}
use Rattle.bsp_model.specs.declared.input.Input.{Input}
use Rattle.bsp_step.specs.ViewParts.{ViewParts}
use Rattle.bsp_step.specs.OutcomeParts.{OutcomeParts}
use Rattle.bsp_deliver.specs.Delivery.{delivery_parts, next_memory}
use Rattle.bsp_run.specs.declared.result.Status.{Status}
use Rattle.bsp_run.specs.declared.result.Status.TheVariants.{Halted, Limit, Faulted, SyncFaulted}
use Rattle.bsp_run.specs.declared.phase.Phase.{Phase}
use Rattle.bsp_run.specs.declared.phase.Phase.TheVariants.{Open, Turned, Ended}
use Rattle.bsp_run.specs.declared.superstep.Superstep.{Superstep}
use Rattle.bsp_run.specs.State.{State, first_state, next_state, views_of}
use Rattle.bsp_run.specs.Ending.{end_of}
use Rattle.bsp_run.specs.Run.{Run, start, open_views, after_turns, after_delivery, phase_after, advance, times, run, is_limit}
use Rattle.bsp_run.specs.Supersteps.{superstep_at, open_superstep, has_turns, supersteps_of, supersteps_opened}
use Rattle.bsp_run.specs.Law.{state_at, views_in, outcomes_in, end_in}
use Rattle.bsp_run.specs.Inside.Record.{IsRecord, IsEndIn}
use Rattle.bsp_run.specs.Condition.{is_open, is_turned}
use Rattle.bsp_run.proofs.Conditions.{length-views_of}
use Rattle.bsp_run.proofs.Phases.{end_of-limit}
use Rattle.bsp_run.proofs.Runs.{open_phase, advance-delivers, advance-ends, advance-closed}

-- one superstep
abbrev pub superstep : List ViewParts → List OutcomeParts → Superstep
superstep vs os = record { views = vs; outcomes = os }

-- a superstep that ended by delivery
pub opened-past : (r : Run) (s : ℕ) → s < length r.past → superstep_at (supersteps_opened r) s ≡ superstep_at r.past s
opened-past r s l = grind (arith, common_steps)

-- the one after these
pub opened-last : (r : Run) → superstep_at (supersteps_opened r) (length r.past) ≡ open_superstep r
opened-last r = grind (arith, common_steps)

-- the views of supersteps of which the last one has other outcomes
views_beside : (past : List Superstep) (x y : Superstep) (s : ℕ) → x.views ≡ y.views → (superstep_at (past ++ x ∷ []) s).views ≡ (superstep_at (past ++ y ∷ []) s).views
views_beside [] x y zero e = e
views_beside [] x y (suc s) e = refl
views_beside (p ∷ past) x y zero e = refl
views_beside (p ∷ past) x y (suc s) e = views_beside past x y s e

has_turns-after : (e : Option Status) → (e ≡ Some Limit → ⊥) → has_turns (phase_after e) ≡ true
has_turns-after None h = refl
has_turns-after (Some Halted) h = refl
has_turns-after (Some Limit) h = absurd (h refl)
has_turns-after (Some (Faulted step faults)) h = refl
has_turns-after (Some (SyncFaulted step fault)) h = refl

-- the supersteps of a run whose turns are taken
pub supersteps-turned : (r : Run) (os : List OutcomeParts) → supersteps_of (after_turns r os) ≡ r.past ++ superstep (open_views r) os ∷ []
unfolding after_turns
supersteps-turned r os =
    ap (λ b. r.past ++ cond b (superstep (open_views r) os ∷ []) []) (has_turns-after (end_of (length r.past) r.state.table os) (end_of-limit (length r.past) r.state.table os))

has_turns-opened : (b : Bool) → has_turns (cond b (Ended Limit) Open) ≡ false
has_turns-opened true = refl
has_turns-opened false = refl

-- the same after its delivery
pub supersteps-delivered : (r : Run) (os : List OutcomeParts) → supersteps_of (after_delivery (after_turns r os)) ≡ r.past ++ superstep (open_views r) os ∷ []
unfolding after_turns after_delivery
supersteps-delivered r os =
    let next : Run = after_delivery (after_turns r os) in
    let all : List Superstep = r.past ++ superstep (open_views r) os ∷ [] in
    ap (λ b. all ++ cond b (open_superstep next ∷ []) []) (has_turns-opened ((length r.past + 1) == r.limit)) ∙ append-nil all

-- an open run has those that ended by delivery
pub supersteps-open : (r : Run) → r.phase ≡ Open → supersteps_of r ≡ r.past
supersteps-open r e = ap (λ p. r.past ++ cond (has_turns p) (open_superstep r ∷ []) []) e ∙ append-nil r.past

pub past-turned : (r : Run) (os : List OutcomeParts) → (after_turns r os).past ≡ r.past
unfolding after_turns
past-turned r os = refl

pub past-delivered : (r : Run) (os : List OutcomeParts) → (after_delivery (after_turns r os)).past ≡ r.past ++ superstep (open_views r) os ∷ []
unfolding after_turns after_delivery
past-delivered r os = refl

open_views-delivered : (r : Run) (os : List OutcomeParts) → open_views (after_delivery (after_turns r os)) ≡ views_of r.args (length r.past + 1) (next_state r.state os)
unfolding after_turns after_delivery
open_views-delivered r os = ap (λ n. views_of r.args n (next_state r.state os)) (length-append r.past (superstep (open_views r) os ∷ []))

-- the next state
pub state_at-next : (turn : ViewParts → OutcomeParts) (input : Input) (s : ℕ) → state_at turn input (s + 1) ≡ next_state (state_at turn input s) (outcomes_in turn input s)
unfolding state_at
state_at-next turn input s = ap (state_at turn input) (add-one s)

-- the first state
pub state_at-first : (turn : ViewParts → OutcomeParts) (input : Input) → state_at turn input 0 ≡ first_state input
unfolding state_at
state_at-first turn input = refl

-- each next state has as many processes as outcomes
pub count-next : (s : State) (os : List OutcomeParts) → length (next_state s os).memories ≡ length os
unfolding next_state
count-next s os = length-map-range_with_len (λ d. next_memory (delivery_parts os d)) 0 (length os)

-- every state has one memory for each process
pub count-state_at : (turn : ViewParts → OutcomeParts) (input : Input) (s : ℕ) → length (state_at turn input s).memories ≡ length input.mems
unfolding state_at first_state
count-state_at turn input zero = refl
count-state_at turn input (suc s) =
    let state = state_at turn input s in
    count-next state (map turn (views_of input.args s state)) ∙ length-map (views_of input.args s state) turn ∙ length-views_of input.args s state ∙ count-state_at turn input s

-- every superstep has one view and one outcome for each process
pub count-views_in : (turn : ViewParts → OutcomeParts) (input : Input) (s : ℕ) → length (views_in turn input s) ≡ length input.mems
count-views_in turn input s = length-views_of input.args s (state_at turn input s) ∙ count-state_at turn input s

pub count-outcomes_in : (turn : ViewParts → OutcomeParts) (input : Input) (s : ℕ) → length (outcomes_in turn input s) ≡ length input.mems
count-outcomes_in turn input s = length-map (views_in turn input s) turn ∙ count-views_in turn input s

-- the open superstep sees its state
pub open_views-in : (turn : ViewParts → OutcomeParts) (input : Input) (r : Run) → IsRecord turn input r → open_views r ≡ views_in turn input (length r.past)
open_views-in turn input r h = sym (ap (λ (y : Superstep). y.views) (opened-last r)) ∙ h.views (length r.past) (omega arith)

-- how its turns end it
end-in : (turn : ViewParts → OutcomeParts) (input : Input) (r : Run) → IsRecord turn input r → end_of (length r.past) r.state.table (map turn (open_views r)) ≡ end_in turn input (length r.past)
end-in turn input r h =
    ap (λ (s : State). end_of (length r.past) s.table (map turn (open_views r))) h.state
    ∙ ap (λ (vs : List ViewParts). end_of (length r.past) (state_at turn input (length r.past)).table (map turn vs)) (open_views-in turn input r h)

turns_push : (turn : ViewParts → OutcomeParts) (r : Run) (all : List Superstep) → All (λ s. s.outcomes ≡ map turn s.views) (supersteps_of r) → r.phase ≡ Open → all ≡ r.past ++ superstep (open_views r) (map turn (open_views r)) ∷ [] → All (λ s. s.outcomes ≡ map turn s.views) all
turns_push turn r all h e is =
    subst (All (λ (s : Superstep). s.outcomes ≡ map turn s.views)) (sym is)
    (All-push (λ (s : Superstep). s.outcomes ≡ map turn s.views) r.past (superstep (open_views r) (map turn (open_views r))) (subst (All (λ (s : Superstep). s.outcomes ≡ map turn s.views)) (supersteps-open r e) h) refl)

not_at_limit : (p : Phase) → p ≡ Open → is_limit p ≡ false
not_at_limit Open h = refl
not_at_limit Turned h = refl
not_at_limit (Ended status) h = cc

ended_in : (turn : ViewParts → OutcomeParts) (input : Input) (s : ℕ) (e : Option Status) → (e ≡ Some Limit → ⊥) → e ≡ end_in turn input s → IsEndIn turn input s (phase_after e)
ended_in turn input s None h k = tt
ended_in turn input s (Some Halted) h k = sym k
ended_in turn input s (Some Limit) h k = absurd (h refl)
ended_in turn input s (Some (Faulted step faults)) h k = sym k
ended_in turn input s (Some (SyncFaulted step fault)) h k = sym k

not_limit_after : (e : Option Status) → (e ≡ Some Limit → ⊥) → is_limit (phase_after e) ≡ true → ⊥
not_limit_after None h k = cc
not_limit_after (Some Halted) h k = cc
not_limit_after (Some Limit) h k = h refl
not_limit_after (Some (Faulted step faults)) h k = cc
not_limit_after (Some (SyncFaulted step fault)) h k = cc

-- taking the turns keeps the record
pub IsRecord-turned : (turn : ViewParts → OutcomeParts) (input : Input) (r : Run) → IsRecord turn input r → r.phase ≡ Open → IsRecord turn input (after_turns r (map turn (open_views r)))
unfolding after_turns
IsRecord-turned turn input r h e =
    let end = end_of (length r.past) r.state.table (map turn (open_views r)) in
    let before : length r.past < input.limit = h.room (not_at_limit r.phase e) in
    record {
      args = h.args;
      limit = h.limit;
      g = h.g;
      l = h.l;
      state = h.state;
      views = λ s l. views_beside r.past (superstep (open_views r) (map turn (open_views r))) (open_superstep r) s refl ∙ h.views s l;
      turns = turns_push turn r (supersteps_of (after_turns r (map turn (open_views r)))) h.turns e (supersteps-turned r (map turn (open_views r)));
      goes_on = h.goes_on;
      room = λ _. before;
      end = ended_in turn input (length r.past) end (end_of-limit (length r.past) r.state.table (map turn (open_views r))) (end-in turn input r h);
      untaken = λ k. absurd (not_limit_after end (end_of-limit (length r.past) r.state.table (map turn (open_views r))) k);
    }

-- the views that there were stay after a delivery
views-delivered : (r : Run) (os : List OutcomeParts) (s : ℕ) → s ≤ length r.past → (superstep_at (supersteps_opened (after_delivery (after_turns r os))) s).views ≡ (superstep_at (supersteps_opened r) s).views
views-delivered r os s l =
    let x = superstep (open_views r) os in
    let next : Run = after_delivery (after_turns r os) in
    let past : next.past ≡ r.past ++ x ∷ [] = past-delivered r os in
    let long : length next.past ≡ length r.past + 1 = ap (λ (xs : List Superstep). length xs) past ∙ length-append r.past (x ∷ []) in
    ap (λ (y : Superstep). y.views) (opened-past next s (omega arith) ∙ ap (λ (xs : List Superstep). superstep_at xs s) past) ∙ views_beside r.past x (open_superstep r) s refl

-- the views that are new
views-new : (r : Run) (os : List OutcomeParts) → (superstep_at (supersteps_opened (after_delivery (after_turns r os))) (length r.past + 1)).views ≡ views_of r.args (length r.past + 1) (next_state r.state os)
views-new r os =
    let next : Run = after_delivery (after_turns r os) in
    let long : length next.past ≡ length r.past + 1 = ap (λ (xs : List Superstep). length xs) (past-delivered r os) ∙ length-append r.past (superstep (open_views r) os ∷ []) in
    ap (λ k. (superstep_at (supersteps_opened next) k).views) (sym long) ∙ ap (λ (y : Superstep). y.views) (opened-last next) ∙ open_views-delivered r os

parts-delivered : (r : Run) (os : List OutcomeParts) → ((after_delivery (after_turns r os)).args ≡ r.args) × ((after_delivery (after_turns r os)).limit ≡ r.limit) × ((after_delivery (after_turns r os)).state ≡ next_state r.state os)
unfolding after_turns after_delivery
parts-delivered r os = (refl, refl, refl)

rest-delivered : (r : Run) (os : List OutcomeParts) → ((after_delivery (after_turns r os)).g ≡ r.g) × ((after_delivery (after_turns r os)).l ≡ r.l) × ((after_delivery (after_turns r os)).outcomes ≡ [])
unfolding after_turns after_delivery
rest-delivered r os = (refl, refl, refl)

end_if : (turn : ViewParts → OutcomeParts) (input : Input) (n limit : ℕ) (b : Bool) → (n == limit) ≡ b → limit ≡ input.limit → IsEndIn turn input n (cond b (Ended Limit) Open)
end_if turn input n limit true e h = let at : n ≡ limit = grind (arith, nat_tests) in at ∙ h
end_if turn input n limit false e h = tt

room_if : (n limit : ℕ) (b : Bool) → (n == limit) ≡ b → n ≤ limit → is_limit (cond b (Ended Limit) Open) ≡ false → n < limit
room_if n limit true e h k = cc
room_if n limit false e h k = grind (arith, nat_tests)

end-delivered : (turn : ViewParts → OutcomeParts) (input : Input) (r : Run) (os : List OutcomeParts) → r.limit ≡ input.limit → IsEndIn turn input (length r.past + 1) (after_delivery (after_turns r os)).phase
unfolding after_turns after_delivery
end-delivered turn input r os h = end_if turn input (length r.past + 1) r.limit ((length r.past + 1) == r.limit) refl h

room-delivered : (r : Run) (os : List OutcomeParts) → length r.past < r.limit → is_limit (after_delivery (after_turns r os)).phase ≡ false → length r.past + 1 < r.limit
unfolding after_turns after_delivery
room-delivered r os h k = room_if (length r.past + 1) r.limit ((length r.past + 1) == r.limit) refl (omega arith) k

-- so does the delivery
pub IsRecord-delivered : (turn : ViewParts → OutcomeParts) (input : Input) (r : Run) → IsRecord turn input r → r.phase ≡ Open → end_in turn input (length r.past) ≡ None → IsRecord turn input (after_delivery (after_turns r (map turn (open_views r))))
IsRecord-delivered turn input r h e none =
    let os = map turn (open_views r) in
    let x = superstep (open_views r) os in
    let next : Run = after_delivery (after_turns r os) in
    let long : length next.past ≡ length r.past + 1 = ap (λ (xs : List Superstep). length xs) (past-delivered r os) ∙ length-append r.past (x ∷ []) in
    let parts = parts-delivered r os in
    let rest = rest-delivered r os in
    let turns : os ≡ outcomes_in turn input (length r.past) = ap (map turn) (open_views-in turn input r h) in
    let state : next_state r.state os ≡ state_at turn input (length r.past + 1) =
    ap (λ (s : State). next_state s os) h.state ∙ ap (next_state (state_at turn input (length r.past))) turns ∙ sym (state_at-next turn input (length r.past)) in
    let before : length r.past < r.limit = omega (arith, h.room (not_at_limit r.phase e), h.limit) in
    let new : (superstep_at (supersteps_opened next) (length r.past + 1)).views ≡ views_in turn input (length r.past + 1) =
    views-new r os ∙ ap (λ (xs : List (List ℕ)). views_of xs (length r.past + 1) (next_state r.state os)) h.args ∙ ap (views_of input.args (length r.past + 1)) state in
    record {
      args = parts.0 ∙ h.args;
      limit = parts.1 ∙ h.limit;
      g = rest.0 ∙ h.g;
      l = rest.1 ∙ h.l;
      state = parts.2 ∙ state ∙ ap (state_at turn input) (sym long);
      views = λ s l. elim (cases_lt s (length r.past + 1)) [
        | inl w ↦ views-delivered r os s (omega arith) ∙ h.views s (omega arith)
        | inr w ↦ let at : s ≡ length r.past + 1 = omega arith in ap (λ k. (superstep_at (supersteps_opened next) k).views) at ∙ new ∙ ap (views_in turn input) (sym at)
      ];
      turns = turns_push turn r (supersteps_of next) h.turns e (supersteps-delivered r os);
      goes_on = λ s l. elim (cases_lt s (length r.past)) [
        | inl w ↦ h.goes_on s w
        | inr w ↦ let at : s ≡ length r.past = omega arith in ap (end_in turn input) at ∙ none
      ];
      room = λ k. let after = room-delivered r os before k in omega (arith, h.limit);
      end = subst (λ n. IsEndIn turn input n next.phase) (sym long) (end-delivered turn input r os h.limit);
      untaken = λ _. rest.2;
    }

goes_on_if : (e : Option Status) → is_turned (phase_after e) ≡ true → e ≡ None
goes_on_if None h = refl
goes_on_if (Some status) h = cc

-- the open superstep ends by delivery
turned-end : (r : Run) (os : List OutcomeParts) → is_turned (after_turns r os).phase ≡ true → end_of (length r.past) r.state.table os ≡ None
unfolding after_turns
turned-end r os h = goes_on_if (end_of (length r.past) r.state.table os) h

-- the record after the deliveries of a superstep that ends so
pub IsRecord-goes_on : (turn : ViewParts → OutcomeParts) (input : Input) (r : Run) → IsRecord turn input r → r.phase ≡ Open → is_turned (after_turns r (map turn (open_views r))).phase ≡ true → IsRecord turn input (after_delivery (after_turns r (map turn (open_views r))))
IsRecord-goes_on turn input r h e t =
    IsRecord-delivered turn input r h e (sym (end-in turn input r h) ∙ turned-end r (map turn (open_views r)) t)

by_turned : (b : Bool) (turn : ViewParts → OutcomeParts) (input : Input) (r : Run) → IsRecord turn input r → r.phase ≡ Open → is_turned (after_turns r (map turn (open_views r))).phase ≡ b → IsRecord turn input (advance turn r)
by_turned true turn input r h e t = subst (IsRecord turn input) (sym (advance-delivers turn r e t)) (IsRecord-goes_on turn input r h e t)
by_turned false turn input r h e t = subst (IsRecord turn input) (sym (advance-ends turn r e t)) (IsRecord-turned turn input r h e)

by_open : (b : Bool) (turn : ViewParts → OutcomeParts) (input : Input) (r : Run) → IsRecord turn input r → is_open r.phase ≡ b → IsRecord turn input (advance turn r)
by_open true turn input r h o = let e = open_phase r.phase o in by_turned (is_turned (after_turns r (map turn (open_views r))).phase) turn input r h e refl
by_open false turn input r h o = subst (IsRecord turn input) (sym (advance-closed turn r o)) h

-- so does a superstep
IsRecord-advance : (turn : ViewParts → OutcomeParts) (input : Input) (r : Run) → IsRecord turn input r → IsRecord turn input (advance turn r)
IsRecord-advance turn input r h = by_open (is_open r.phase) turn input r h refl

first_views : (turn : ViewParts → OutcomeParts) (input : Input) (s : ℕ) → s ≤ length (start input).past → (superstep_at (supersteps_opened (start input)) s).views ≡ views_in turn input s
unfolding start state_at
first_views turn input s l =
    let at : s ≡ 0 = omega arith in
    ap (λ k. (superstep_at (supersteps_opened (start input)) k).views) at ∙ ap (views_in turn input) (sym at)

-- a run with its first superstep open
pub IsRecord-start : (turn : ViewParts → OutcomeParts) (input : Input) → 1 ≤ input.limit → IsRecord turn input (start input)
unfolding start state_at
IsRecord-start turn input some =
    record {
      args = refl;
      limit = refl;
      g = refl;
      l = refl;
      state = refl;
      views = first_views turn input;
      turns = All-nil (λ (s : Superstep). s.outcomes ≡ map turn s.views);
      goes_on = λ s l. absurd (omega arith);
      room = λ _. omega arith;
      end = tt;
      untaken = λ _. refl;
    }

times_record : (turn : ViewParts → OutcomeParts) (input : Input) (n : ℕ) (r : Run) → IsRecord turn input r → IsRecord turn input (times n (advance turn) r)
times_record turn input zero r h = h
times_record turn input (suc n) r h = times_record turn input n (advance turn r) (IsRecord-advance turn input r h)

-- Every run has its record.
pub IsRecord-run : (turn : ViewParts → OutcomeParts) (input : Input) → 1 ≤ input.limit → IsRecord turn input (run turn input)
unfolding run
IsRecord-run turn input some = times_record turn input input.limit (start input) (IsRecord-start turn input some)
