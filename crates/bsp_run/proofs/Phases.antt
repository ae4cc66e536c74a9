-- What a run keeps from phase to phase.
use Rattle.std.proofs.Common.{◌≡◌, ◌≤◌, ◌<◌, ◌+◌, ℕ, List, [], ◌∷◌, map, length, arith, refl, sym, ap, ◌∙◌, subst, Option, Some, None, ◌==◌, Bool, true, false, cond, length-append}
use Rattle.std.specs.Prelude.{is_some, not, ◌&&◌}
use Rattle.std.specs.List.{list_any, range_with_len}
use Rattle.bsp_model.specs.declared.request.Message.{Message}
use Rattle.bsp_model.specs.declared.fault.SyncFault.{SyncFault}
use Rattle.bsp_model.specs.declared.fault.SyncFault.TheVariants.{MixedEnd, TagMismatch}
use Rattle.std.proofs.lemmas.List.FromFn.{length-map-range_with_len}
use Rattle.std.proofs.lemmas.List.{length-map}
use Rattle.std.proofs.lemmas.List.Elements.{All-push, All-map}
use Rattle.std.proofs.lemmas.Bool.Decides.{nat_tests}
use Rattle.bsp_model.specs.Limits.{most_memory_words}
use Rattle.bsp_table.specs.declared.area.Area.{Area}
use Rattle.bsp_table.specs.NextTable.{AreFull, AreSlotsInside, ArePushesInside, AreWithin, next_table, table_fault, are_alike}
use Rattle.bsp_table.proofs.NextTables.{full_after, few_after, inside_after, within_after}
use Rattle.bsp_step.specs.ViewParts.{IsQueue}
use Rattle.bsp_step.specs.OutcomeParts.{OutcomeParts}
use Rattle.bsp_deliver.specs.Requests.{each_below}
use Rattle.bsp_deliver.specs.Delivery.{delivery_parts, next_memory, next_queue}
use Rattle.bsp_deliver.specs.Condition.{AreDeliverable}
use Rattle.bsp_deliver.specs.SyncFault.{sync_fault, is_sync, same_tag, next_tag_size}
use Rattle.bsp_run.specs.declared.result.ProcessFault.{ProcessFault}
use Rattle.bsp_run.specs.declared.result.Status.{Status}
use Rattle.bsp_run.specs.declared.result.Status.TheVariants.{Halted, Limit, Faulted, SyncFaulted}
use Rattle.bsp_run.specs.declared.phase.Phase.TheVariants.{Open, Turned, Ended}
use Rattle.bsp_run.specs.declared.superstep.Superstep.{Superstep}
use Rattle.bsp_run.specs.State.{State, views_of, next_state, pops_of, pushes_of}
use Rattle.bsp_run.specs.Ending.{end_of, end_without_fault, faults_from}
use Rattle.bsp_run.specs.Run.{Run, open_views, after_turns, after_delivery, phase_after}
use Rattle.bsp_run.specs.Inside.Opening.{CanOpen, state_of}
use Rattle.bsp_run.specs.Condition.{deliveries_of, IsState, IsRun, IsInPhase, IsTurned, IsOpen, AreOutcomesOf}
use Rattle.bsp_run.specs.Inside.Condition.{CanSync, IsNextTable}
use Rattle.bsp_deliver.proofs.Senders.{map_twice}
use Rattle.bsp_run.proofs.Opens.{can_open, past_within}
use Rattle.bsp_run.proofs.Conditions.{count_of_outcomes, sizes, sizes-same, outcome_at, AreDeliverable-from_turns, pops_are_slots, pushes_are_inside, pushes_within}
use Rattle.bsp_run.proofs.Deliveries.{All-each_below, length-next_memory, queue_within, tag_within, sizes-next}

-- the next state is within the limits
pub next_state_within : (args : List (List ℕ)) (step : ℕ) (s : State) (os : List OutcomeParts) → IsState s → AreOutcomesOf (views_of args step s) os → IsNextTable (length os) (sizes s) (next_table s.table (pops_of os) (pushes_of os)) → IsState (next_state s os)
unfolding next_state
next_state_within args step s os state h table =
    let count = count_of_outcomes args step s os h in
    let memory : ℕ → List ℕ = λ d. next_memory (delivery_parts os d) in
    let queue = λ (d : ℕ). next_queue (delivery_parts os d) in
    let long : length (each_below (length os) memory) ≡ length os = length-map-range_with_len memory 0 (length os) in
    let many : length (each_below (length os) queue) ≡ length os = length-map-range_with_len queue 0 (length os) in
    record {
      some = omega (arith, state.some);
      few = omega (arith, state.few);
      short_memories = All-each_below (λ m. length m ≤ most_memory_words) memory (length os) (λ k l. let short = state.short_memories k [] (omega arith) in omega (arith, length-next_memory os k, (outcome_at args step s os k h (omega arith)).memory));
      same_count = many ∙ sym long;
      queues = All-each_below IsQueue queue (length os) (λ k l. queue_within os k (omega (arith, state.few)) h.limits);
      table = record { few_slots = table.few; full_slots = subst (λ n. AreFull n (next_table s.table (pops_of os) (pushes_of os))) (sym long) table.full; inside = table.within };
      inside = subst (λ ns. AreSlotsInside ns (next_table s.table (pops_of os) (pushes_of os))) (sym (sizes-same args step s os h) ∙ sym (sizes-next os)) table.inside;
      small_tag = tag_within s.tag_size os state.small_tag h.limits;
    }

-- the number of processes stays
pub count-next_state : (args : List (List ℕ)) (step : ℕ) (s : State) (os : List OutcomeParts) → AreOutcomesOf (views_of args step s) os → length (next_state s os).memories ≡ length s.memories
unfolding next_state
count-next_state args step s os h = length-map-range_with_len (λ d. next_memory (delivery_parts os d)) 0 (length os) ∙ count_of_outcomes args step s os h

halts_or_not : (b : Bool) → cond b None (Some Halted) ≡ Some Limit → ⊥
halts_or_not true h = cc
halts_or_not false h = cc

not_limit : (b : Bool) (step : ℕ) (os : List OutcomeParts) (faults : List ProcessFault) (f : Option SyncFault) → cond b (Some (Faulted step faults)) (end_without_fault step os f) ≡ Some Limit → ⊥
not_limit true step os faults f h = cc
not_limit false step os faults (Some f) h = cc
not_limit false step os faults None h = halts_or_not (list_any (λ o. is_sync o.ended) os) h

-- no superstep ends a run by the limit before its delivery
pub end_of-limit : (step : ℕ) (slots : List (List Area)) (os : List OutcomeParts) → end_of step slots os ≡ Some Limit → ⊥
unfolding end_of
end_of-limit step slots os h = not_limit (list_any (λ o. is_some o.fault) os) step os (faults_from 0 os) (sync_fault os slots) h

ended_phase : (r : Run) (os : List OutcomeParts) (status : Status) → length r.past < r.limit → AreOutcomesOf (open_views r) os → end_of (length r.past) r.state.table os ≡ Some status → IsInPhase (Ended status) record r { outcomes = os; phase = Ended status }
ended_phase r os Halted room h e = record { room = room; turns = h; end = e }
ended_phase r os Limit room h e = absurd (end_of-limit (length r.past) r.state.table os e)
ended_phase r os (Faulted step faults) room h e = record { room = room; turns = h; end = e }
ended_phase r os (SyncFaulted step fault) room h e = record { room = room; turns = h; end = e }

turned_phase : (r : Run) (os : List OutcomeParts) (end : Option Status) → length r.past < r.limit → AreOutcomesOf (open_views r) os → end_of (length r.past) r.state.table os ≡ end → IsInPhase (phase_after end) record r { outcomes = os; phase = phase_after end }
turned_phase r os None room h e = record { room = room; turns = h; delivers = e }
turned_phase r os (Some status) room h e = ended_phase r os status room h e

-- taking the turns keeps what a run keeps
pub turned_is_run : (r : Run) (os : List OutcomeParts) → IsRun r → r.phase ≡ Open → AreOutcomesOf (open_views r) os → IsRun (after_turns r os)
unfolding after_turns
turned_is_run r os h e turns =
    let opened : IsOpen r = subst (λ p. IsInPhase p r) e h.phase in
    record {
      same_args = h.same_args;
      short_args = h.short_args;
      few_supersteps = h.few_supersteps;
      small_g = h.small_g;
      small_l = h.small_l;
      past = h.past;
      state = h.state;
      phase = turned_phase r os (end_of (length r.past) r.state.table os) opened.room turns refl;
    }

next_phase : (b : Bool) (n limit : ℕ) (r : Run) → (n == limit) ≡ b → n ≤ limit → length r.past ≡ n → r.limit ≡ limit → r.outcomes ≡ [] → IsInPhase (cond b (Ended Limit) Open) r
next_phase true n limit r e h long same none = let last : n ≡ limit = grind (arith, nat_tests) in record { full = omega arith; outcomes = none }
next_phase false n limit r e h long same none = let more : n < limit = grind (arith, nat_tests) in record { room = omega arith; outcomes = none }

-- making the deliveries keeps what a run keeps
pub delivered_is_run : (r : Run) → IsRun r → r.phase ≡ Turned → IsNextTable (length r.outcomes) (sizes r.state) (next_table r.state.table (pops_of r.outcomes) (pushes_of r.outcomes)) → IsRun (after_delivery r)
unfolding after_delivery
delivered_is_run r h e table =
    let turned : IsTurned r = subst (λ p. IsInPhase p r) e h.phase in
    let count = count-next_state r.args (length r.past) r.state r.outcomes turned.turns in
    let step : Superstep = record { views = open_views r; outcomes = r.outcomes } in
    let room : length r.past < r.limit = turned.room in
    record {
      same_args = h.same_args ∙ sym count;
      short_args = h.short_args;
      few_supersteps = h.few_supersteps;
      small_g = h.small_g;
      small_l = h.small_l;
      past = All-push (λ (s : Superstep). AreDeliverable s.outcomes) r.past step h.past (AreDeliverable-from_turns r.args (length r.past) r.state r.outcomes h.state turned.turns);
      state = next_state_within r.args (length r.past) r.state r.outcomes h.state turned.turns table;
      phase = next_phase ((length r.past + 1) == r.limit) (length r.past + 1) r.limit (after_delivery r) refl (omega arith) (length-append r.past (step ∷ [])) refl refl;
    }

sync_clear : (h m : Bool) (t : Option SyncFault) → cond (true && h) (Some MixedEnd) (cond (not true) None (cond (not m) (Some TagMismatch) t)) ≡ None → t ≡ None
sync_clear true m t e = cc
sync_clear false true t e = e
sync_clear false false t e = cc

end_clear : (some : Bool) (h m : Bool) (step : ℕ) (t : Option SyncFault) → cond (some && h) (Some MixedEnd) (cond (not some) None (cond (not m) (Some TagMismatch) t)) ≡ None → cond some None (Some Halted) ≡ None → t ≡ None
end_clear true h m step t e k = sync_clear h m t e
end_clear false h m step t e k = cc

no_sync_fault : (step : ℕ) (os : List OutcomeParts) (f : Option SyncFault) → end_without_fault step os f ≡ None → (f ≡ None) × (cond (list_any (λ o. is_sync o.ended) os) None (Some Halted) ≡ None)
no_sync_fault step os None h = (refl, h)
no_sync_fault step os (Some f) h = cc

no_fault : (b : Bool) (step : ℕ) (os : List OutcomeParts) (faults : List ProcessFault) (f : Option SyncFault) → cond b (Some (Faulted step faults)) (end_without_fault step os f) ≡ None → (f ≡ None) × (cond (list_any (λ o. is_sync o.ended) os) None (Some Halted) ≡ None)
no_fault true step os faults f h = cc
no_fault false step os faults f h = no_sync_fault step os f h

-- where a superstep ends by delivery, the table has no fault
pub table_clear : (step : ℕ) (slots : List (List Area)) (os : List OutcomeParts) → end_of step slots os ≡ None → table_fault slots (pops_of os) (pushes_of os) ≡ None
unfolding end_of
table_clear step slots os h =
    let none = no_fault (list_any (λ o. is_some o.fault) os) step os (faults_from 0 os) (sync_fault os slots) h in
    end_clear (list_any (λ o. is_sync o.ended) os) (list_any (λ o. not (is_sync o.ended)) os) (are_alike same_tag (map (λ (o : OutcomeParts). o.tag) os)) step (table_fault slots (pops_of os) (pushes_of os)) none.0 none.1

-- the condition of the step to the next table
pub can_sync : (r : Run) → IsRun r → IsTurned r → CanSync r.state.table r.outcomes
can_sync r h turned =
    let step = length r.past in
    let count = count_of_outcomes r.args step r.state r.outcomes turned.turns in
    let same = sym (sizes-same r.args step r.state r.outcomes turned.turns) in
    record {
      some = omega (arith, h.state.some);
      few = omega (arith, h.state.few);
      full = subst (λ n. AreFull n r.state.table) (sym count) h.state.table.full_slots;
      pops = pops_are_slots r.args step r.state r.outcomes turned.turns;
      faultless = table_clear step r.state.table r.outcomes turned.delivers;
      inside = subst (λ ns. AreSlotsInside ns r.state.table) same h.state.inside;
      pushes = subst (λ ns. ArePushesInside ns (pushes_of r.outcomes)) same (pushes_are_inside r.args step r.state r.outcomes turned.turns);
      within = h.state.table.inside;
      short_pushes = pushes_within r.args step r.state r.outcomes h.state turned.turns;
    }

-- what is delivered makes the next state
pub state_of-deliveries : (s : State) (os : List OutcomeParts) → state_of (deliveries_of os) (next_table s.table (pops_of os) (pushes_of os)) (next_tag_size s.tag_size os) ≡ next_state s os
unfolding deliveries_of next_state
state_of-deliveries s os =
    let cell : ℕ → List ℕ × List Message = λ d. (next_memory (delivery_parts os d), next_queue (delivery_parts os d)) in
    let memories = sym (map_twice (λ (c : List ℕ × List Message). c.0) cell (range_with_len 0 (length os))) in
    let queues = sym (map_twice (λ (c : List ℕ × List Message). c.1) cell (range_with_len 0 (length os))) in
    λ i. record { memories = memories i; queues = queues i; table = next_table s.table (pops_of os) (pushes_of os); tag_size = next_tag_size s.tag_size os }

-- the next superstep may be opened
pub can_open_next : (r : Run) → IsRun (after_delivery r) → CanOpen r.args (length r.past + 1) (next_state r.state r.outcomes)
unfolding after_delivery
can_open_next r h =
    let few = past_within (after_delivery r) h in
    let step : Superstep = record { views = open_views r; outcomes = r.outcomes } in
    can_open r.args (length r.past + 1) (next_state r.state r.outcomes) (omega (arith, few, length-append r.past (step ∷ []))) h.state h.same_args h.short_args

pub cells_are : (r : Run) (cells : List (List ℕ × List Message)) (table : List (List Area)) (tag : ℕ) → cells ≡ deliveries_of r.outcomes → table ≡ next_table r.state.table (pops_of r.outcomes) (pushes_of r.outcomes) → tag ≡ next_tag_size r.state.tag_size r.outcomes
    → state_of cells table tag ≡ next_state r.state r.outcomes
cells_are r cells table tag ec et eg =
    ap (λ xs. state_of xs table tag) ec ∙ ap (λ (t : List (List Area)). state_of (deliveries_of r.outcomes) t tag) et ∙ ap (λ n. state_of (deliveries_of r.outcomes) (next_table r.state.table (pops_of r.outcomes) (pushes_of r.outcomes)) n) eg ∙ state_of-deliveries r.state r.outcomes

-- in the phase of the deliveries
pub is_turned_run : (r : Run) → IsRun r → r.phase ≡ Turned → IsTurned r
is_turned_run r h e = subst (λ p. IsInPhase p r) e h.phase

-- the next table is within the limits
next_table_within : (slots : List (List Area)) (os : List OutcomeParts) → CanSync slots os → IsNextTable (length os) (map (λ (o : OutcomeParts). length o.memory) os) (next_table slots (pops_of os) (pushes_of os))
next_table_within slots os h =
    record {
      few = few_after slots (pops_of os) (pushes_of os) h.faultless;
      full = full_after (length os) slots (pops_of os) (pushes_of os) h.full (length-map os (λ (o : OutcomeParts). o.pushes));
      inside = inside_after (map (λ (o : OutcomeParts). length o.memory) os) slots (pops_of os) (pushes_of os) h.faultless h.inside h.pushes;
      within = within_after most_memory_words slots (pops_of os) (pushes_of os) h.faultless h.within (All-map (AreWithin most_memory_words) (λ (o : OutcomeParts). o.pushes) os h.short_pushes);
    }

-- the run after a delivery keeps what a run keeps
pub next_is_run : (r : Run) → IsRun r → r.phase ≡ Turned → IsRun (after_delivery r)
next_is_run r h e =
    let turned : IsTurned r = is_turned_run r h e in
    delivered_is_run r h e (subst (λ ns. IsNextTable (length r.outcomes) ns (next_table r.state.table (pops_of r.outcomes) (pushes_of r.outcomes))) (sizes-same r.args (length r.past) r.state r.outcomes turned.turns)
    (next_table_within r.state.table r.outcomes (can_sync r h turned)))

-- the table of the next state is that which the superstep makes
pub next_table-is : (r : Run) (table : List (List Area)) → table ≡ (next_state r.state r.outcomes).table → table ≡ next_table r.state.table (pops_of r.outcomes) (pushes_of r.outcomes)
unfolding next_state
next_table-is r table e = e

pub next_tag-is : (r : Run) (tag : ℕ) → tag ≡ (next_state r.state r.outcomes).tag_size → tag ≡ next_tag_size r.state.tag_size r.outcomes
unfolding next_state
next_tag-is r tag e = e
