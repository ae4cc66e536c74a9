-- A superstep in which each process sees what it saw in the previous run.
use Rattle.std.proofs.Common.{◌≡◌, ◌<◌, ◌+◌, ◌++◌, ◌∷◌, ℕ, zero, suc, Bool, true, List, [], None, Some, All, map, length, get_or, arith, refl, sym, ap, ◌∙◌, subst, append-nil, length-append}
use Rattle.std.proofs.lemmas.Grind.{common_steps}
use Rattle.std.proofs.lemmas.List.{length-map}
use Rattle.std.proofs.lemmas.List.FromFn.{fill_by_all, get_or-map-range_with_len, length-map-range_with_len}
use Rattle.bsp_model.specs.declared.input.Input.{Input}
use Rattle.bsp_model.specs.declared.fault.End.{End}
use Rattle.bsp_model.specs.ProcessSet.{processes_in}
use Rattle.bsp_step.specs.ViewParts.{ViewParts, IsView}
use Rattle.bsp_step.specs.OutcomeParts.{OutcomeParts}
use Rattle.bsp_step.specs.Act.{Act}
use Rattle.bsp_step.specs.Turn.{turn_of}
use Rattle.bsp_deliver.specs.Requests.{each_below}
use Rattle.bsp_deliver.specs.Delivery.{delivery_parts, next_memory, next_queue}
use Rattle.bsp_run.specs.declared.superstep.Superstep.{Superstep}
use Rattle.bsp_run.specs.declared.phase.Phase.TheVariants.{Open}
use Rattle.bsp_run.specs.State.{State, first_state, next_state, no_messages, view_of, views_of}
use Rattle.bsp_run.specs.Ending.{end_of}
use Rattle.bsp_run.specs.Run.{Run, open_views, after_turns, after_delivery, phase_after}
use Rattle.bsp_run.specs.Law.{state_at, views_in, outcomes_in}
use Rattle.bsp_run.specs.Inside.Record.{IsRecord}
use Rattle.bsp_run.specs.Condition.{no_view, is_open, is_turned, AreOutcomesOf}
use Rattle.bsp_run.specs.Supersteps.{supersteps_of, last_superstep, superstep_at}
use Rattle.bsp_run.specs.TakingOver.{CanTakeOver, outcomes_there}
use Rattle.bsp_run.proofs.Opens.{state_seen-views_of, state_seen}
use Rattle.bsp_run.proofs.Turns.{AreOutcomesOf-turns}
use Rattle.bsp_run.proofs.Runs.{open_phase}
use Rattle.bsp_run.proofs.Records.{superstep, opened-past, state_at-next, count-state_at, count-views_in, open_views-in, past-delivered, IsRecord-goes_on}
use Rattle.bsp_run.proofs.Laws.{taken_outcomes}
use Rattle.bsp_incr.specs.declared.reply.Place.{Place}
use Rattle.bsp_incr.specs.declared.reply.Update.{Update}
use Rattle.bsp_incr.specs.Inside.Changes.{differ_in, touched_in}
use Rattle.bsp_incr.specs.Inside.Marks.{AreMarked, AreAlikeButForTable, ViewsDifferAtMost}
use Rattle.bsp_incr.specs.Inside.Before.{views_before, delivered_outcomes, IsBefore}
use Rattle.bsp_incr.specs.Inside.UnderWay.{IsUnderWay}
use Rattle.bsp_incr.proofs.Members.{no_members, nobody_marked}
use Rattle.bsp_incr.proofs.Propagation.{view-in}
use Rattle.bsp_incr.proofs.RunBefore.{record_of_law, taken-in, some_taken}
use Rattle.bsp_incr.proofs.Unchanged.{nothing-differs, nothing-touched}
use Rattle.bsp_incr.proofs.Updating.{updated_delivered}

-- each memory has its queue
count-queues : (turn : ViewParts → OutcomeParts) (input : Input) (s : ℕ) → length (state_at turn input s).queues ≡ length (state_at turn input s).memories
unfolding state_at first_state next_state
count-queues turn input zero = length-map input.mems no_messages
count-queues turn input (suc s) =
    let os = map turn (views_of input.args s (state_at turn input s)) in
    length-map-range_with_len (λ d. next_queue (delivery_parts os d)) 0 (length os) ∙ sym (length-map-range_with_len (λ d. next_memory (delivery_parts os d)) 0 (length os))

-- where all see the same, the states are the same ..
same_state : (turn : ViewParts → OutcomeParts) (i j : Input) (s : ℕ) → 0 < length j.mems → length i.mems ≡ length j.mems → views_in turn i s ≡ views_in turn j s → state_at turn i s ≡ state_at turn j s
same_state turn i j s some many e =
    let x = state_at turn i s in
    let y = state_at turn j s in
    let first : view_of i.args s x 0 ≡ view_of j.args s y 0 = sym (view-in turn i s 0 (omega arith)) ∙ ap (λ (vs : List ViewParts). get_or vs 0 no_view) e ∙ view-in turn j s 0 some in
    sym (state_seen-views_of i.args s x (count-queues turn i s))
    ∙ (λ k. state_seen (e k) (first k).table (first k).tag_size)
    ∙ state_seen-views_of j.args s y (count-queues turn j s)

-- .. and so are the arguments
same_args : (turn : ViewParts → OutcomeParts) (i j : Input) (s p : ℕ) → p < length j.mems → length i.mems ≡ length j.mems → views_in turn i s ≡ views_in turn j s → get_or i.args p [] ≡ get_or j.args p []
same_args turn i j s p l many e =
    let own : ViewParts → List ℕ = λ v. v.args in
    sym (ap own (view-in turn i s p (omega arith))) ∙ ap (λ (vs : List ViewParts). own (get_or vs p no_view)) e ∙ ap own (view-in turn j s p l)

-- what the processes see of a state hangs on their own arguments alone
views_of-same : (a b : List (List ℕ)) (step : ℕ) (s : State) → ((p : ℕ) → p < length s.memories → get_or a p [] ≡ get_or b p []) → views_of a step s ≡ views_of b step s
unfolding views_of
views_of-same a b step s h =
    fill_by_all (view_of b step s) (each_below (length s.memories) (view_of a step s)) (length s.memories) no_view (length-map-range_with_len (view_of a step s) 0 (length s.memories))
    (λ p l.
    get_or-map-range_with_len (view_of a step s) 0 (length s.memories) p p no_view l (omega arith)
    ∙ (λ k. record { nprocs = length s.memories; pid = p; step = step; args = h p l k; memory = get_or s.memories p []; table = s.table; tag_size = s.tag_size; queue = get_or s.queues p [] }))

-- Where all see the same, they see the same in the next superstep.
pub same_after : (turn : ViewParts → OutcomeParts) (i j : Input) (s : ℕ) → 0 < length j.mems → length i.mems ≡ length j.mems → views_in turn i s ≡ views_in turn j s → views_in turn i (s + 1) ≡ views_in turn j (s + 1)
same_after turn i j s some many e =
    let state = same_state turn i j s some many e in
    let next : state_at turn i (s + 1) ≡ state_at turn j (s + 1) = state_at-next turn i s ∙ (λ k. next_state (state k) (map turn (e k))) ∙ sym (state_at-next turn j s) in
    ap (views_of i.args (s + 1)) next
    ∙ views_of-same i.args j.args (s + 1) (state_at turn j (s + 1)) (λ p l. same_args turn i j s p (omega (arith, l, count-state_at turn j (s + 1))) many e)

-- the outcomes of a superstep that ended by delivery
past_outcomes : (turn : ViewParts → OutcomeParts) (i : Input) (old : Run) (s : ℕ) → IsRecord turn i old → s < length old.past → (superstep_at old.past s).outcomes ≡ outcomes_in turn i s
past_outcomes turn i old s h l =
    let front : superstep_at (supersteps_of old) s ≡ superstep_at old.past s = grind (arith, common_steps) in
    let turns = subst (λ (x : Superstep). x.outcomes ≡ map turn x.views) front (taken_outcomes turn (supersteps_of old) s h.turns) in
    turns ∙ ap (map turn) (sym (ap (λ (x : Superstep). x.views) (opened-past old s l)) ∙ h.views s (omega arith))

-- Where all see what they saw in the previous run, and that superstep ended by delivery, it can be taken over.
pub can_take_over : (acts : ViewParts → List Act) (ending : ViewParts → End) (i j : Input) (old r : Run) → IsRecord (turn_of acts ending) i old → IsRecord (turn_of acts ending) j r → r.phase ≡ Open → 0 < length j.mems → length i.mems ≡ length j.mems
    → All IsView (open_views r) → length r.past < length old.past → views_in (turn_of acts ending) i (length r.past) ≡ open_views r → CanTakeOver old r
can_take_over acts ending i j old r before made phase some many within l seen =
    let turn = turn_of acts ending in
    let s = length r.past in
    let now = open_views-in turn j r made in
    let same : views_in turn i s ≡ views_in turn j s = seen ∙ now in
    let left = past_outcomes turn i old s before l in
    let taken : outcomes_there old r ≡ map turn (open_views r) = left ∙ ap (map turn) seen in
    let state : r.state ≡ state_at turn i s = made.state ∙ sym (same_state turn i j s some many same) in
    let turned : outcomes_in turn j s ≡ outcomes_there old r = ap (map turn) (sym now) ∙ sym taken in
    record {
      started = phase;
      past = l;
      turns = subst (AreOutcomesOf (open_views r)) (sym taken) (AreOutcomesOf-turns acts ending (open_views r) within);
      delivers = ap (λ (x : State). end_of s x.table (outcomes_there old r)) state ∙ ap (end_of s (state_at turn i s).table) left ∙ before.goes_on s l;
      next =
          before.views (s + 1) (omega arith) ∙ same_after turn i j s some many same ∙ ap (views_of j.args (s + 1)) (state_at-next turn j s)
          ∙ (λ k. views_of (sym made.args k) (s + 1) (next_state (sym made.state k) (turned k)));
    }

-- Views that differ nowhere are the same.
pub same_views : (olds news : List ViewParts) (set : List Bool) → ViewsDifferAtMost olds news set → processes_in set ≡ [] → length olds ≡ length news → olds ≡ news
same_views olds news set differ none long =
    let at : ℕ → ViewParts = λ p. get_or news p no_view in
    fill_by_all at olds (length news) no_view long (λ p l. (differ.same p l (no_members set p none (omega (arith, l, differ.count)))).1)
    ∙ sym (fill_by_all at news (length news) no_view refl (λ k l. refl))

-- The open superstep is one that the previous run took whole, and each process sees what it saw there.
pub record IsStaying (turn : ViewParts → OutcomeParts) (i j : Input) (old r : Run) : Type 0 where
  pub before : IsRecord turn i old
  pub made : IsRecord turn j r
  pub many : length i.mems ≡ length j.mems
  pub some : 0 < length j.mems
  pub started : is_open r.phase ≡ true
  pub past : length r.past < length old.past
  pub seen : views_in turn i (length r.past) ≡ open_views r

pub some_before : (old : Run) (s : ℕ) → s < length old.past → s < length (supersteps_of old)
some_before old s l = omega (arith, l, length-append old.past (last_superstep old))

-- what its turns leave
pub left : (turn : ViewParts → OutcomeParts) (i j : Input) (old r : Run) → IsStaying turn i j old r → outcomes_there old r ≡ map turn (open_views r)
left turn i j old r h = past_outcomes turn i old (length r.past) h.before h.past ∙ ap (map turn) h.seen

pub turns_on : (r : Run) (os : List OutcomeParts) → end_of (length r.past) r.state.table os ≡ None → is_turned (after_turns r os).phase ≡ true
unfolding after_turns
turns_on r os e = ap (λ x. is_turned (phase_after x)) e

-- it ends by delivery
pub goes_on : (turn : ViewParts → OutcomeParts) (i j : Input) (old r : Run) → IsStaying turn i j old r → is_turned (after_turns r (map turn (open_views r))).phase ≡ true
goes_on turn i j old r h =
    let s = length r.past in
    let same : views_in turn i s ≡ views_in turn j s = h.seen ∙ open_views-in turn j r h.made in
    let state : r.state ≡ state_at turn i s = h.made.state ∙ sym (same_state turn i j s h.some h.many same) in
    turns_on r (map turn (open_views r))
    (ap (λ (x : State). end_of s x.table (map turn (open_views r))) state ∙ ap (λ (vs : List ViewParts). end_of s (state_at turn i s).table (map turn vs)) (sym h.seen) ∙ h.before.goes_on s h.past)

alike : (v w : ViewParts) → v ≡ w → AreAlikeButForTable v w
alike v w e =
    record {
      nprocs = ap (λ (x : ViewParts). x.nprocs) e;
      pid = ap (λ (x : ViewParts). x.pid) e;
      step = ap (λ (x : ViewParts). x.step) e;
      args = ap (λ (x : ViewParts). x.args) e;
      memory = ap (λ (x : ViewParts). x.memory) e;
      queue = ap (λ (x : ViewParts). x.queue) e;
    }

-- What is known of the run that is made again stays, the update too, and nobody is marked then.
pub under_way_taken : (turn : ViewParts → OutcomeParts) (looks : ViewParts → ℕ → Bool) (j : Input) (old r q : Run) (marks set : List Bool) (u : Update) (k : IsBefore turn j (Some old)) → processes_in set ≡ [] → length set ≡ length (open_views r) → IsStaying turn k.input_before j old r → IsUnderWay turn looks (Some old) j r marks u → q ≡ after_delivery (after_turns r (map turn (open_views r)))
    → IsUnderWay turn looks (Some old) j q set u
under_way_taken turn looks j old r q marks set u k none long_set h under is =
    let i = k.input_before in
    let s = length r.past in
    let us = map turn (open_views r) in
    let phase = open_phase r.phase h.started in
    let next : Run = after_delivery (after_turns r us) in
    let made : IsRecord turn j next = IsRecord-goes_on turn j r h.made phase (goes_on turn i j old r h) in
    let long : length next.past ≡ s + 1 = ap (λ (xs : List Superstep). length xs) (past-delivered r us) ∙ length-append r.past (superstep (open_views r) us ∷ []) in
    let views : open_views next ≡ views_in turn j (s + 1) = open_views-in turn j next made ∙ ap (views_in turn j) long in
    let same = same_after turn i j s h.some h.many (h.seen ∙ open_views-in turn j r h.made) in
    let count : length (open_views r) ≡ length (open_views next) =
    ap (λ (vs : List ViewParts). length vs) (open_views-in turn j r h.made) ∙ count-views_in turn j s ∙ sym (count-views_in turn j (s + 1)) ∙ sym (ap (λ (vs : List ViewParts). length vs) views) in
    let marked : AreMarked (views_before (Some old) (s + 1)) (open_views next) set = record {
      count = long_set ∙ count;
      clean = λ p l n c. alike (get_or (views_before (Some old) (s + 1)) p no_view) (get_or (open_views next) p no_view)
          (ap (λ (vs : List ViewParts). get_or vs p no_view) (taken-in turn j old (s + 1) k (some_taken old (s + 1) p l) ∙ same ∙ sym views));
    } in
    let taken : views_before (Some old) s ≡ open_views r = taken-in turn j old s k (some_before old s h.past) ∙ h.seen in
    let delivered : delivered_outcomes (Some old) s ≡ us = left turn i j old r h in
    let executed : u.executed ≡ u.executed ++ differ_in looks s (views_before (Some old) s) (open_views r) =
    sym (append-nil u.executed) ∙ ap (λ (xs : List Place). u.executed ++ xs) (sym (ap (λ (vs : List ViewParts). differ_in looks s vs (open_views r)) taken ∙ nothing-differs looks s (open_views r))) in
    let redelivered : u.redelivered ≡ u.redelivered ++ touched_in s (delivered_outcomes (Some old) s) us =
    sym (append-nil u.redelivered) ∙ ap (λ (xs : List Place). u.redelivered ++ xs) (sym (ap (λ (os : List OutcomeParts). touched_in s os us) delivered ∙ nothing-touched s us)) in
    subst (λ (x : Run). IsUnderWay turn looks (Some old) j x set u) (sym is)
    record {
      made = made;
      marked = λ _. subst (λ n. AreMarked (views_before (Some old) n) (open_views next) set) (sym long) marked;
      reached = λ _ p t. absurd (nobody_marked set p none t);
      updated = updated_delivered looks (Some old) r us u u phase under.updated executed redelivered;
    }

-- where nobody sees something else, the open superstep stays
pub staying : (turn : ViewParts → OutcomeParts) (j : Input) (old r : Run) (set : List Bool) (k : IsBefore turn j (Some old)) → IsRecord turn j r → is_open r.phase ≡ true → 0 < length j.mems → length r.past < length old.past → ViewsDifferAtMost (views_before (Some old) (length r.past)) (open_views r) set → processes_in set ≡ []
    → IsStaying turn k.input_before j old r
staying turn j old r set k made started some past differ none =
    let s = length r.past in
    let taken = taken-in turn j old s k (some_before old s past) in
    let count : length (views_before (Some old) s) ≡ length (open_views r) =
    ap (λ (vs : List ViewParts). length vs) taken ∙ count-views_in turn k.input_before s ∙ k.stands ∙ sym (count-views_in turn j s) ∙ sym (ap (λ (vs : List ViewParts). length vs) (open_views-in turn j r made)) in
    record { before = record_of_law turn k.input_before old k.lawful k.law; made = made; many = k.stands; some = some; started = started; past = past; seen = sym taken ∙ same_views (views_before (Some old) s) (open_views r) set differ none count }
