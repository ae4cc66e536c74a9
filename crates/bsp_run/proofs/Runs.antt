-- Laws of runs, superstep by superstep.
use Rattle.std.proofs.Common.{◌≡◌, ◌≤◌, ◌<◌, ◌+◌, ◌-◌, ◌==◌, ℕ, zero, suc, Bool, true, false, cond, List, [], ◌∷◌, ◌++◌, map, length, refl, sym, ap, ◌∙◌, subst, arith, Option, Some, None, length-append}
use Rattle.std.proofs.lemmas.Bool.{false≢true}
use Rattle.std.proofs.lemmas.Bool.Decides.{nat_tests}
use Rattle.bsp_model.specs.declared.input.Input.{Input}
use Rattle.bsp_step.specs.ViewParts.{ViewParts}
use Rattle.bsp_step.specs.OutcomeParts.{OutcomeParts}
use Rattle.bsp_run.specs.declared.result.Status.{Status}
use Rattle.bsp_run.specs.declared.result.Status.TheVariants.{Limit}
use Rattle.bsp_run.specs.declared.phase.Phase.{Phase}
use Rattle.bsp_run.specs.declared.phase.Phase.TheVariants.{Open, Turned, Ended}
use Rattle.bsp_run.specs.declared.superstep.Superstep.{Superstep}
use Rattle.bsp_run.specs.Ending.{end_of}
use Rattle.bsp_run.specs.Run.{Run, start, run, open_views, after_turns, after_delivery, phase_after, delivered_if, advanced_if, advance, times, is_limit}
use Rattle.bsp_run.specs.Inside.Left.{IsBetween, LeadsTo}
use Rattle.bsp_run.specs.Supersteps.{superstep_at, open_superstep, superstep_shown}
use Rattle.bsp_run.specs.Condition.{is_turned, is_open, is_ended}

-- an open run goes on by its turns
pub advance-open : (turn : ViewParts → OutcomeParts) (r : Run) → r.phase ≡ Open → advance turn r ≡ delivered_if (after_turns r (map turn (open_views r))).phase (after_turns r (map turn (open_views r)))
unfolding advance
advance-open turn r e = ap (λ p. advanced_if turn p r) e

delivers_if : (p : Phase) (r : Run) → is_turned p ≡ true → delivered_if p r ≡ after_delivery r
delivers_if Turned r h = refl
delivers_if Open r h = cc
delivers_if (Ended status) r h = cc

stays_if : (p : Phase) (r : Run) → is_turned p ≡ false → delivered_if p r ≡ r
stays_if Turned r h = cc
stays_if Open r h = refl
stays_if (Ended status) r h = refl

pub advance-delivers : (turn : ViewParts → OutcomeParts) (r : Run) → r.phase ≡ Open → is_turned (after_turns r (map turn (open_views r))).phase ≡ true → advance turn r ≡ after_delivery (after_turns r (map turn (open_views r)))
advance-delivers turn r e h = advance-open turn r e ∙ delivers_if (after_turns r (map turn (open_views r))).phase (after_turns r (map turn (open_views r))) h

pub advance-ends : (turn : ViewParts → OutcomeParts) (r : Run) → r.phase ≡ Open → is_turned (after_turns r (map turn (open_views r))).phase ≡ false → advance turn r ≡ after_turns r (map turn (open_views r))
advance-ends turn r e h = advance-open turn r e ∙ stays_if (after_turns r (map turn (open_views r))).phase (after_turns r (map turn (open_views r))) h

closed_stays : (turn : ViewParts → OutcomeParts) (p : Phase) (r : Run) → is_open p ≡ false → advanced_if turn p r ≡ r
closed_stays turn Open r h = cc
closed_stays turn Turned r h = refl
closed_stays turn (Ended status) r h = refl

-- a run that is not open stays as it is
pub advance-closed : (turn : ViewParts → OutcomeParts) (r : Run) → is_open r.phase ≡ false → advance turn r ≡ r
unfolding advance
advance-closed turn r h = closed_stays turn r.phase r h

pub open_phase : (p : Phase) → is_open p ≡ true → p ≡ Open
open_phase Open h = refl
open_phase Turned h = cc
open_phase (Ended status) h = cc

pub turned_phase_is : (p : Phase) → is_turned p ≡ true → p ≡ Turned
turned_phase_is Open h = cc
turned_phase_is Turned h = refl
turned_phase_is (Ended status) h = cc

ended_otherwise : (p : Phase) → is_open p ≡ false → is_turned p ≡ false → is_ended p ≡ true
ended_otherwise Open h k = cc
ended_otherwise Turned h k = cc
ended_otherwise (Ended status) h k = refl

never_open : (e : Option Status) → is_open (phase_after e) ≡ false
never_open None = refl
never_open (Some status) = refl

at_limit : (b : Bool) (n : ℕ) (m limit : ℕ) → (m == limit) ≡ b → m + n ≡ limit → (is_turned (cond b (Ended Limit) Open) ≡ false) × (is_open (cond b (Ended Limit) Open) ≡ true → (1 ≤ n) × (m + n ≡ limit))
at_limit true n m limit e h = (refl, λ k. absurd (false≢true k))
at_limit false n m limit e h = (refl, λ k. (let apart : m < limit = grind (arith, nat_tests) in omega arith, h))

delivery_between : (n : ℕ) (r : Run) → length r.past + suc n ≡ r.limit → IsBetween n (after_delivery r)
unfolding after_delivery
delivery_between n r h =
    let step : Superstep = record { views = open_views r; outcomes = r.outcomes } in
    let long : length (r.past ++ step ∷ []) ≡ length r.past + 1 = length-append r.past (step ∷ []) in
    let both = at_limit ((length r.past + 1) == r.limit) n (length r.past + 1) r.limit refl (omega arith) in
    record { between = both.0; left = λ k. let w = both.1 k in (w.0, omega (arith, w.1)) }

turns_left : (n : ℕ) (r : Run) (os : List OutcomeParts) → length r.past + suc n ≡ r.limit → length (after_turns r os).past + suc n ≡ (after_turns r os).limit
unfolding after_turns
turns_left n r os h = h

pub turns_closed : (r : Run) (os : List OutcomeParts) → is_open (after_turns r os).phase ≡ false
unfolding after_turns
turns_closed r os = never_open (end_of (length r.past) r.state.table os)

open_between : (b : Bool) (turn : ViewParts → OutcomeParts) (n : ℕ) (r : Run) → r.phase ≡ Open → length r.past + suc n ≡ r.limit → is_turned (after_turns r (map turn (open_views r))).phase ≡ b → IsBetween n (advance turn r)
open_between true turn n r e h t = subst (IsBetween n) (sym (advance-delivers turn r e t)) (delivery_between n (after_turns r (map turn (open_views r))) (turns_left n r (map turn (open_views r)) h))
open_between false turn n r e h t =
    subst (IsBetween n) (sym (advance-ends turn r e t)) record { between = t; left = λ k. absurd (false≢true (sym (turns_closed r (map turn (open_views r))) ∙ k)) }

either_between : (b : Bool) (turn : ViewParts → OutcomeParts) (n : ℕ) (r : Run) → IsBetween (suc n) r → is_open r.phase ≡ b → IsBetween n (advance turn r)
either_between true turn n r h e = open_between (is_turned (after_turns r (map turn (open_views r))).phase) turn n r (open_phase r.phase e) (h.left e).1 refl
either_between false turn n r h e = subst (IsBetween n) (sym (advance-closed turn r e)) record { between = h.between; left = λ k. absurd (false≢true (sym e ∙ k)) }

-- one superstep more leaves one less
pub advance-between : (turn : ViewParts → OutcomeParts) (n : ℕ) (r : Run) → IsBetween (suc n) r → IsBetween n (advance turn r)
advance-between turn n r h = either_between (is_open r.phase) turn n r h refl

none_left : (b : Bool) (r : Run) → IsBetween zero r → is_open r.phase ≡ b → is_ended r.phase ≡ true
none_left true r h e = absurd (let w = (h.left e).0 in omega (arith, w))
none_left false r h e = ended_otherwise r.phase e h.between

-- with no superstep left the run has ended
pub ended-between : (r : Run) → IsBetween zero r → is_ended r.phase ≡ true
ended-between r h = none_left (is_open r.phase) r h refl

pub start-between : (input : Input) → 1 ≤ input.limit → IsBetween input.limit (start input)
unfolding start
start-between input h = record { between = refl; left = λ k. (h, omega arith) }

shown_if : (p : Phase) (x y : Superstep) → is_ended p ≡ false → cond (is_limit p) x y ≡ y
shown_if Open x y h = refl
shown_if Turned x y h = refl
shown_if (Ended status) x y h = cc

-- a run whose turns are taken shows their outcomes
pub outcomes_shown-turned : (r : Run) → r.phase ≡ Turned → (superstep_shown r).outcomes ≡ r.outcomes
outcomes_shown-turned r h = ap (λ (x : Superstep). x.outcomes) (shown_if r.phase (superstep_at r.past (length r.past - 1)) (open_superstep r) (ap is_ended h))

pub times_more : (turn : ViewParts → OutcomeParts) (m n : ℕ) (r : Run) → m ≡ suc n → times m (advance turn) r ≡ times n (advance turn) (advance turn r)
times_more turn m n r e = ap (λ k. times k (advance turn) r) e

-- a run that is not open stays as it is, however many supersteps are left
pub times-closed : (turn : ViewParts → OutcomeParts) (n : ℕ) (r : Run) → is_open r.phase ≡ false → times n (advance turn) r ≡ r
times-closed turn zero r h = refl
times-closed turn (suc n) r h = ap (times n (advance turn)) (advance-closed turn r h) ∙ times-closed turn n r h

pub start-leads : (turn : ViewParts → OutcomeParts) (input : Input) → 1 ≤ input.limit → LeadsTo turn (start input) (run turn input)
unfolding run
start-leads turn input h = record { left = input.limit; between = start-between input h; rest = refl }

-- one less is left of an open run
one_less : (r : Run) (n : ℕ) → IsBetween n r → is_open r.phase ≡ true → n ≡ suc (n - 1)
one_less r n h e = let w = h.left e in omega (arith, w.0)

one_step : (turn : ViewParts → OutcomeParts) (r : Run) (n : ℕ) → IsBetween n r → is_open r.phase ≡ true → IsBetween (n - 1) (advance turn r)
one_step turn r n h e = advance-between turn (n - 1) r (subst (λ m. IsBetween m r) (one_less r n h e) h)

pub advance-leads : (turn : ViewParts → OutcomeParts) (r whole : Run) → LeadsTo turn r whole → is_open r.phase ≡ true → LeadsTo turn (advance turn r) whole
advance-leads turn r whole h e =
    let less : h.left ≡ suc (h.left - 1) = one_less r h.left h.between e in
    record {
      left = h.left - 1;
      between = one_step turn r h.left h.between e;
      rest = sym (times_more turn h.left (h.left - 1) r less) ∙ h.rest;
    }

-- how many supersteps are left to the limit; none where the run is not open
abbrev pub supersteps_left : Run → ℕ
supersteps_left r = cond (is_open r.phase) (r.limit - length r.past) 0

left_by : (b : Bool) (n : ℕ) (r : Run) → IsBetween n r → is_open r.phase ≡ b → supersteps_left r ≤ n
left_by true n r h e = let w = h.left e in let is : supersteps_left r ≡ r.limit - length r.past = ap (λ b. cond b (r.limit - length r.past) 0) e in omega (arith, w.1, is)
left_by false n r h e = let is : supersteps_left r ≡ 0 = ap (λ b. cond b (r.limit - length r.past) 0) e in omega (arith, is)

pub fewer_left : (turn : ViewParts → OutcomeParts) (r whole : Run) → LeadsTo turn r whole → is_open r.phase ≡ true → supersteps_left (advance turn r) < supersteps_left r
fewer_left turn r whole h e =
    let next = one_step turn r h.left h.between e in
    let later : supersteps_left (advance turn r) ≤ h.left - 1 = left_by (is_open (advance turn r).phase) (h.left - 1) (advance turn r) next refl in
    let w = h.between.left e in
    let is : supersteps_left r ≡ r.limit - length r.past = ap (λ b. cond b (r.limit - length r.past) 0) e in
    omega (arith, later, w.0, w.1, is)

-- A run that leads to another, and is not open, has ended, and is the other.
pub closed-leads : (turn : ViewParts → OutcomeParts) (r whole : Run) → LeadsTo turn r whole → is_open r.phase ≡ false → (is_ended r.phase ≡ true) × (r ≡ whole)
closed-leads turn r whole h e = (ended_otherwise r.phase e h.between.between, sym (times-closed turn h.left r e) ∙ h.rest)
