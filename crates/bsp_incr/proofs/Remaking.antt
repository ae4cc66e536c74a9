-- What is known of a run that is made again.
use Rattle.std.proofs.Common.{◌≡◌, ◌≤◌, ◌<◌, ◌+◌, ◌-◌, ℕ, Bool, true, false, List, [], ◌∷◌, ◌++◌, Option, None, Some, map, length, get_or, arith, refl, sym, ap, ◌∙◌, subst, length-append, ◌⊎◌, inl, inr}
use Rattle.std.specs.Prelude.{◌||◌}
use Rattle.std.proofs.lemmas.Bool.{false≢true}
use Rattle.std.proofs.lemmas.List.{length-map, get_or-map, get_or_default, get_or-append_right}
use Rattle.std.proofs.lemmas.List.FromFn.{get_or-map-range_with_len, length-map-range_with_len}
use Rattle.bsp_model.specs.declared.input.Input.{Input}
use Rattle.bsp_model.specs.ProcessSet.{union}
use Rattle.bsp_model.proofs.ProcessSets.{member_within}
use Rattle.bsp_step.specs.ViewParts.{ViewParts}
use Rattle.bsp_step.specs.OutcomeParts.{OutcomeParts, outcome_of, no_outcome}
use Rattle.bsp_deliver.specs.Requests.{each_below}
use Rattle.bsp_deliver.specs.Delivery.{delivery_parts}
use Rattle.bsp_run.specs.declared.superstep.Superstep.{Superstep}
use Rattle.bsp_run.specs.Run.{Run, start, open_views, after_turns, after_delivery}
use Rattle.bsp_run.specs.Supersteps.{supersteps_of, superstep_at, no_superstep}
use Rattle.bsp_run.specs.Law.{views_in, outcomes_in}
use Rattle.bsp_run.specs.Inside.Record.{IsRecord}
use Rattle.bsp_run.specs.Condition.{no_view, is_open, is_turned}
use Rattle.bsp_run.proofs.Runs.{open_phase, turns_closed}
use Rattle.bsp_run.proofs.Records.{superstep, past-delivered, open_views-in, count-views_in, count-outcomes_in, IsRecord-turned, IsRecord-goes_on, IsRecord-start}
use Rattle.bsp_incr.specs.declared.reply.Update.{Update}
use Rattle.bsp_incr.specs.Inside.Marks.{AreMarked, AreAlikeButForTable, ViewsDifferAtMost, OutcomesDifferAtMost, AreArgsMarked, AreFirstMarked, IsReached}
use Rattle.bsp_incr.specs.Inside.Changes.{differ, differ_in, touched, touched_in, is_touched, update_of}
use Rattle.bsp_incr.specs.Exact.{supersteps_before, delivered_before}
use Rattle.bsp_incr.specs.Inside.Before.{views_before, delivered_outcomes, IsBefore, HasSameArgs, HasSameMemory}
use Rattle.bsp_incr.specs.Inside.UnderWay.{IsUnderWay}
use Rattle.bsp_incr.proofs.Updating.{same_update, updated_turned, updated_delivered}
use Rattle.bsp_incr.proofs.Propagation.{propagated, first_alike, untouched_is}
use Rattle.bsp_incr.proofs.RunBefore.{args_before, memory_before, taken-in, some_taken, nothing_taken, delivered-in, some_delivered, nothing_delivered}

-- A process that is known to see what it saw leaves what it left.
unchanged_by : (turn : ViewParts → OutcomeParts) (vs ws : List ViewParts) (p : ℕ) → p < length vs → p < length ws → get_or vs p no_view ≡ get_or ws p no_view → outcome_of (map turn vs) p ≡ outcome_of (map turn ws) p
unchanged_by turn vs ws p l m e = get_or-map turn vs p no_view no_outcome l ∙ ap turn e ∙ sym (get_or-map turn ws p no_view no_outcome m)

pub unchanged_among : (turn : ViewParts → OutcomeParts) (input : Input) (old : Option Run) (s : ℕ) (ws : List ViewParts) (set : List Bool) → IsBefore turn input old → ws ≡ views_in turn input s → ViewsDifferAtMost (views_before old s) ws set → OutcomesDifferAtMost (delivered_outcomes old s) (map turn ws) set
unchanged_among turn input None s ws set h is k =
    record { count = k.count ∙ sym (length-map ws turn); same = λ p l m t. absurd (nothing_delivered s p l) }
unchanged_among turn input (Some o) s ws set h is k =
    record {
      count = k.count ∙ sym (length-map ws turn);
      same = λ p l m t.
          let past = some_delivered o s p l in
          let here : p < length ws = omega (arith, m, length-map ws turn) in
          let seen = k.same p here t in
          let taken = taken-in turn input o s h (some_taken o s p seen.0) in
          let old : delivered_outcomes (Some o) s ≡ map turn (views_before (Some o) s) = delivered-in turn input o s h past ∙ ap (map turn) (sym taken) in
          ap (λ (os : List OutcomeParts). outcome_of os p) old ∙ unchanged_by turn (views_before (Some o) s) ws p seen.0 here seen.1;
    }

-- A superstep that the previous run took had the same processes.
pub count_taken : (turn : ViewParts → OutcomeParts) (input : Input) (old : Option Run) (s : ℕ) (ws : List ViewParts) → IsBefore turn input old → ws ≡ views_in turn input s → 0 < length (views_before old s) → length (views_before old s) ≡ length ws
count_taken turn input None s ws h is l = absurd (nothing_taken s 0 l)
count_taken turn input (Some k) s ws h is l =
    ap (λ (vs : List ViewParts). length vs) (taken-in turn input k s h (some_taken k s 0 l)) ∙ count-views_in turn h.input_before s ∙ h.stands
    ∙ sym (count-views_in turn input s) ∙ sym (ap (λ (vs : List ViewParts). length vs) is)

or_false : (a b : Bool) → (a || b) ≡ false → (a ≡ false) × (b ≡ false)
or_false true b e = cc
or_false false b e = (refl, e)

clean_after : (turn : ViewParts → OutcomeParts) (input : Input) (old : Option Run) (s p : ℕ) → IsBefore turn input old → p < length input.mems → p < length (views_before old (s + 1)) → HasSameArgs old input p → p < length (delivered_outcomes old s) → delivery_parts (delivered_outcomes old s) p ≡ delivery_parts (outcomes_in turn input s) p
    → AreAlikeButForTable (get_or (views_before old (s + 1)) p no_view) (get_or (views_in turn input (s + 1)) p no_view)
clean_after turn input None s p h l m same there e = absurd (nothing_delivered s p there)
clean_after turn input (Some k) s p h l m same there e =
    let os = delivered-in turn input k s h (some_delivered k s p there) in
    let vs = taken-in turn input k (s + 1) h (some_taken k (s + 1) p m) in
    subst (λ (xs : List ViewParts). AreAlikeButForTable (get_or xs p no_view) (get_or (views_in turn input (s + 1)) p no_view)) (sym vs)
    (propagated turn h.input_before input s p h.stands l (args_before turn input k p h l same) (ap (λ (xs : List OutcomeParts). delivery_parts xs p) (sym os) ∙ e))

-- A process that is not marked after the deliveries sees next what it saw in the previous run.
marked_next : (turn : ViewParts → OutcomeParts) (input : Input) (old : Option Run) (s : ℕ) (others marks : List Bool) → IsBefore turn input old → AreArgsMarked old input others
    → marks ≡ union (each_below (length (outcomes_in turn input s)) (is_touched (delivered_outcomes old s) (outcomes_in turn input s))) others
    → AreMarked (views_before old (s + 1)) (views_in turn input (s + 1)) marks
marked_next turn input old s others marks h a m =
    let us = outcomes_in turn input s in
    let touched : ℕ → Bool = is_touched (delivered_outcomes old s) us in
    let some : List Bool = each_below (length us) touched in
    let mark : ℕ → Bool = λ d. get_or some d false || get_or others d false in
    let many = count-outcomes_in turn input s in
    let count = count-views_in turn input (s + 1) in
    let long : length some ≡ length us = length-map-range_with_len touched 0 (length us) in
    record {
      count = ap (λ (bs : List Bool). length bs) m ∙ length-map-range_with_len mark 0 (length some) ∙ long ∙ many ∙ sym count;
      clean = λ p l n c.
          let here : p < length us = omega arith in
          let at : get_or marks p true ≡ mark p = ap (λ (bs : List Bool). get_or bs p true) m ∙ get_or-map-range_with_len mark 0 (length some) p p true (omega arith) (omega arith) in
          let both = or_false (get_or some p false) (get_or others p false) (sym at ∙ c) in
          let clean : touched p ≡ false = sym (get_or-map-range_with_len touched 0 (length us) p p false here (omega arith)) ∙ both.0 in
          let same = untouched_is (delivered_outcomes old s) us p clean in
          let unmarked : get_or others p true ≡ false = get_or_default others p true false (omega (arith, a.count)) ∙ both.1 in
          clean_after turn input old s p h (omega arith) l (a.clean p (omega arith) unmarked) same.0 same.1;
    }

or_true : (a b : Bool) → (a || b) ≡ true → (a ≡ true) ⊎ (b ≡ true)
or_true true b e = inl refl
or_true false b e = inr e

-- A process that is marked after the deliveries has been reached.
reached_next : (old : Option Run) (input : Input) (next : Run) (s : ℕ) (us : List OutcomeParts) (others marks : List Bool) → AreArgsMarked old input others → length us ≡ length input.mems
    → length next.past ≡ s + 1 → (superstep_at next.past s).outcomes ≡ us
    → marks ≡ union (each_below (length us) (is_touched (delivered_outcomes old s) us)) others
    → (p : ℕ) → get_or marks p false ≡ true → IsReached old input next p
reached_next old input next s us others marks a many long last m p t =
    let touched : ℕ → Bool = is_touched (delivered_outcomes old s) us in
    let some : List Bool = each_below (length us) touched in
    let mark : ℕ → Bool = λ d. get_or some d false || get_or others d false in
    let count : length some ≡ length us = length-map-range_with_len touched 0 (length us) in
    let marked : get_or (union some others) p false ≡ true = sym (ap (λ (bs : List Bool). get_or bs p false) m) ∙ t in
    let here : p < length some = omega (arith, member_within (union some others) p marked, length-map-range_with_len mark 0 (length some)) in
    let at : mark p ≡ true = sym (get_or-map-range_with_len mark 0 (length some) p p false here (omega arith)) ∙ marked in
    elim (or_true (get_or some p false) (get_or others p false) at) [
      | inl delivered ↦
          let now : touched p ≡ true = sym (get_or-map-range_with_len touched 0 (length us) p p false (omega (arith, here, count)) (omega arith)) ∙ delivered in
          inr (inl (record { step = s; before = long; touched = ap (λ (os : List OutcomeParts). is_touched (delivered_outcomes old s) os p) last ∙ now }))
      | inr other ↦ inl (a.other p (omega (arith, here, count, many)) other)
    ]

pub outcomes-turned : (r : Run) (os : List OutcomeParts) → (after_turns r os).outcomes ≡ os
unfolding after_turns
outcomes-turned r os = refl

-- a superstep whose turns are taken has its number and its outcomes
pub turned_still : (P : ℕ → List OutcomeParts → Type 0) (r t : Run) (os : List OutcomeParts) → t ≡ after_turns r os → P (length r.past) os → P (length t.past) t.outcomes
unfolding after_turns
turned_still P r t os is h = subst (λ (x : Run). P (length x.past) x.outcomes) (sym is) h

pub turned_same : {X : Type 0} (f : ℕ → List OutcomeParts → X) (r t : Run) (os : List OutcomeParts) → t ≡ after_turns r os → f (length t.past) t.outcomes ≡ f (length r.past) os
unfolding after_turns
turned_same f r t os is = ap (λ (x : Run). f (length x.past) x.outcomes) is

-- the turns of the open superstep
pub turns-in : (turn : ViewParts → OutcomeParts) (input : Input) (r : Run) → IsRecord turn input r → map turn (open_views r) ≡ outcomes_in turn input (length r.past)
turns-in turn input r h = ap (map turn) (open_views-in turn input r h)

pub count-turns : (turn : ViewParts → OutcomeParts) (input : Input) (r : Run) → IsRecord turn input r → length (map turn (open_views r)) ≡ length input.mems
count-turns turn input r h = ap (λ (os : List OutcomeParts). length os) (turns-in turn input r h) ∙ count-outcomes_in turn input (length r.past)

-- A superstep that ends the run keeps what is known.
pub under_way_turned : (turn : ViewParts → OutcomeParts) (looks : ViewParts → ℕ → Bool) (old : Option Run) (input : Input) (r q : Run) (marks : List Bool) (u v : Update) → is_open r.phase ≡ true → IsUnderWay turn looks old input r marks u → q ≡ after_turns r (map turn (open_views r))
    → v.executed ≡ u.executed ++ differ_in looks (length r.past) (views_before old (length r.past)) (open_views r) → v.redelivered ≡ u.redelivered → IsUnderWay turn looks old input q marks v
under_way_turned turn looks old input r q marks u v o h is k l =
    let e = open_phase r.phase o in
    let us = map turn (open_views r) in
    subst (λ (x : Run). IsUnderWay turn looks old input x marks v) (sym is)
    record {
      made = IsRecord-turned turn input r h.made e;
      marked = λ t. absurd (false≢true (sym (turns_closed r us) ∙ t));
      reached = λ t. absurd (false≢true (sym (turns_closed r us) ∙ t));
      updated = updated_turned looks old r us u v e h.updated k l;
    }

-- So does one that ends by delivery.
pub under_way_delivered : (turn : ViewParts → OutcomeParts) (looks : ViewParts → ℕ → Bool) (old : Option Run) (input : Input) (others : List Bool) (r q : Run) (m marks : List Bool) (u v : Update) → is_open r.phase ≡ true → is_turned (after_turns r (map turn (open_views r))).phase ≡ true → IsBefore turn input old → AreArgsMarked old input others → IsUnderWay turn looks old input r m u → q ≡ after_delivery (after_turns r (map turn (open_views r)))
    → marks ≡ union (each_below (length (map turn (open_views r))) (is_touched (delivered_outcomes old (length r.past)) (map turn (open_views r)))) others
    → v.executed ≡ u.executed ++ differ_in looks (length r.past) (views_before old (length r.past)) (open_views r) → v.redelivered ≡ u.redelivered ++ touched_in (length r.past) (delivered_outcomes old (length r.past)) (map turn (open_views r)) → IsUnderWay turn looks old input q marks v
under_way_delivered turn looks old input others r q m marks u v o t b a h is n k l =
    let e = open_phase r.phase o in
    let us = map turn (open_views r) in
    let s = length r.past in
    let next : Run = after_delivery (after_turns r us) in
    let made : IsRecord turn input next = IsRecord-goes_on turn input r h.made e t in
    let long : length next.past ≡ s + 1 = ap (λ (xs : List Superstep). length xs) (past-delivered r us) ∙ length-append r.past (superstep (open_views r) us ∷ []) in
    let views : open_views next ≡ views_in turn input (s + 1) = open_views-in turn input next made ∙ ap (views_in turn input) long in
    let none : s - s ≡ 0 = omega arith in
    let all : List OutcomeParts → List Bool = λ os. union (each_below (length os) (is_touched (delivered_outcomes old s) os)) others in
    let marked = marked_next turn input old s others marks b a (n ∙ ap all (turns-in turn input r h.made)) in
    let many : length us ≡ length input.mems = count-turns turn input r h.made in
    let last : (superstep_at next.past s).outcomes ≡ us =
    ap (λ (xs : List Superstep). (superstep_at xs s).outcomes) (past-delivered r us) ∙ ap (λ (x : Superstep). x.outcomes) (get_or-append_right r.past (superstep (open_views r) us ∷ []) s s no_superstep refl (omega arith) ∙ ap (λ k. get_or (superstep (open_views r) us ∷ []) k no_superstep) none) in
    subst (λ (x : Run). IsUnderWay turn looks old input x marks v) (sym is)
    record {
      made = made;
      marked = λ _. subst (λ i. AreMarked (views_before old i) (open_views next) marks) (sym long) (subst (λ (vs : List ViewParts). AreMarked (views_before old (s + 1)) vs marks) (sym views) marked);
      reached = λ _. reached_next old input next s us others marks a many long last n;
      updated = updated_delivered looks old r us u v e h.updated k l;
    }

first_clean : (turn : ViewParts → OutcomeParts) (input : Input) (old : Option Run) (p : ℕ) → IsBefore turn input old → p < length input.mems → p < length (views_before old 0) → HasSameMemory old input p → HasSameArgs old input p
    → AreAlikeButForTable (get_or (views_before old 0) p no_view) (get_or (views_in turn input 0) p no_view)
first_clean turn input None p h m l memory same = absurd (nothing_taken 0 p l)
first_clean turn input (Some k) p h m l memory same =
    subst (λ (vs : List ViewParts). AreAlikeButForTable (get_or vs p no_view) (get_or (views_in turn input 0) p no_view)) (sym (taken-in turn input k 0 h (some_taken k 0 p l)))
    (first_alike turn h.input_before input p h.stands m (args_before turn input k p h m same) (memory_before turn input k p h m memory))

nothing_executed : (looks : ViewParts → ℕ → Bool) (old : Option Run) (input : Input) → differ looks (supersteps_before old) (supersteps_of (start input)) ≡ []
unfolding start differ
nothing_executed looks old input = refl

nothing_redelivered : (old : Option Run) (input : Input) → touched (delivered_before old) (start input).past ≡ []
unfolding start touched
nothing_redelivered old input = refl

no_past : (input : Input) → length (start input).past ≡ 0
unfolding start
no_past input = refl

-- A process that is marked for superstep 0 has been reached.
first_reached : (old : Option Run) (input : Input) (marks : List Bool) → AreFirstMarked old input marks → (p : ℕ) → get_or marks p false ≡ true → IsReached old input (start input) p
first_reached old input marks m p t =
    elim (m.other p (omega (arith, member_within marks p t, m.count)) t) [
      | inl memory ↦ inr (inr (no_past input, memory))
      | inr args ↦ inl args
    ]

-- before superstep 0
pub under_way_start : (turn : ViewParts → OutcomeParts) (looks : ViewParts → ℕ → Bool) (old : Option Run) (input : Input) (r : Run) (marks : List Bool) (u : Update) → r ≡ start input → 1 ≤ input.limit → IsBefore turn input old → AreFirstMarked old input marks → u.executed ≡ [] → u.redelivered ≡ [] → IsUnderWay turn looks old input r marks u
under_way_start turn looks old input r marks u is some h m e d =
    let made = IsRecord-start turn input some in
    let views : open_views (start input) ≡ views_in turn input 0 = open_views-in turn input (start input) made ∙ ap (views_in turn input) (no_past input) in
    let count : length (open_views (start input)) ≡ length input.mems = ap (λ (vs : List ViewParts). length vs) views ∙ count-views_in turn input 0 in
    let marked : AreMarked (views_before old 0) (open_views (start input)) marks = record {
      count = m.count ∙ sym count;
      clean = λ p l n c.
          let here : p < length input.mems = omega arith in
          subst (λ (vs : List ViewParts). AreAlikeButForTable (get_or (views_before old 0) p no_view) (get_or vs p no_view)) (sym views) (first_clean turn input old p h here l (m.memory p here c) (m.args p here c));
    } in
    subst (λ (x : Run). IsUnderWay turn looks old input x marks u) (sym is)
    record {
      made = made;
      marked = λ o. subst (λ n. AreMarked (views_before old n) (open_views (start input)) marks) (sym (no_past input)) marked;
      reached = λ o p t. first_reached old input marks m p t;
      updated = same_update u (update_of looks old (start input)) (e ∙ sym (nothing_executed looks old input)) (d ∙ sym (nothing_redelivered old input));
    }
