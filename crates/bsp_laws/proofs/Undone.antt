-- Updates by which nothing was done.
use Rattle.std.proofs.Common.{◌≡◌, ◌≤◌, ◌<◌, ◌-◌, ℕ, zero, suc, Bool, true, false, get_or, List, [], None, map, length, unwrap_or, arith, refl, sym, ap, ◌∙◌, subst, inl, inr}
use Rattle.std.proofs.lemmas.Bool.{cases_lt, false≢true}
use Rattle.bsp_model.specs.declared.input.Input.{Input}
use Rattle.bsp_model.specs.Input.{input_fault}
use Rattle.bsp_model.proofs.Inputs.{lawful_input}
use Rattle.bsp_step.specs.ViewParts.{ViewParts}
use Rattle.bsp_step.specs.OutcomeParts.{OutcomeParts}
use Rattle.bsp_step.specs.Footprint.{AreAlike}
use Rattle.bsp_deliver.specs.Delivery.{delivery_parts}
use Rattle.bsp_run.specs.declared.result.Status.TheVariants.{Limit}
use Rattle.bsp_run.specs.declared.phase.Phase.TheVariants.{Ended}
use Rattle.bsp_run.specs.declared.superstep.Superstep.{Superstep}
use Rattle.bsp_run.specs.State.{State, first_state, next_state, views_of, no_messages}
use Rattle.bsp_run.specs.Ending.{end_of}
use Rattle.bsp_run.specs.Run.{Run, run, is_limit}
use Rattle.bsp_run.specs.Supersteps.{supersteps_of, superstep_at}
use Rattle.bsp_run.specs.Law.{state_at, views_in, outcomes_in, end_in}
use Rattle.bsp_run.specs.Condition.{is_ended, no_view}
use Rattle.bsp_run.proofs.Records.{IsRecord-run}
use Rattle.bsp_run.proofs.Laws.{IsBspRun-run, superstep_at-past_end, limit_phase}
use Rattle.bsp_run.proofs.OneRun.{front, count_past}
use Rattle.bsp_incr.specs.declared.reply.Place.{Place}
use Rattle.bsp_incr.specs.Exact.{HasTurn, IsServed, view_there}
use Rattle.bsp_incr.proofs.Serving.{Decides-serves, serves-itself}
use Rattle.bsp_incr.proofs.PlacesGathered.{nothing_there}
use Rattle.bsp_laws.specs.Updates.{NothingForTheSameRun, DifferInLimitAndPrices, LimitsAndPricesGoOn, LowerLimitsDoNothing}
use Rattle.bsp_laws.proofs.Reaching.{seen, inside_news}

-- a view that is the same is served
served : (looks : ViewParts → ℕ → Bool) (olds news : List Superstep) (q : Place) → HasTurn olds q → view_there olds q ≡ view_there news q → IsServed looks olds news q
served looks olds news q there same =
    let v = view_there olds q in
    let itself : AreAlike (looks v) v v = (Decides-serves looks v v).0 (serves-itself looks v) in
    record { there = there; alike = subst (AreAlike (looks v) v) same itself }

pub nothing_done : NothingForTheSameRun
nothing_done looks r update is = record {
  executed = nothing_there update.executed (λ q c. let x = (is.executed q).0 c in x.1 (served looks (supersteps_of r) (supersteps_of r) q x.0 refl));
  redelivered = nothing_there update.redelivered (λ q c. let x = (is.redelivered q).0 c in x.1 record { there = x.0; same = refl });
}

-- limit and prices change no state

same_states : (turn : ViewParts → OutcomeParts) (i j : Input) → DifferInLimitAndPrices i j → (s : ℕ) → state_at turn i s ≡ state_at turn j s
unfolding state_at first_state
same_states turn i j h zero =
    ap (λ (ms : List (List ℕ)). record { memories = ms; queues = map no_messages ms; table = []; tag_size = 0 }) h.memories
same_states turn i j h (suc s) =
    ap (λ (x : State). next_state x (map turn (views_of i.args s x))) (same_states turn i j h s)
    ∙ ap (λ (args : List (List ℕ)). next_state (state_at turn j s) (map turn (views_of args s (state_at turn j s)))) h.arguments

same_views : (turn : ViewParts → OutcomeParts) (i j : Input) → DifferInLimitAndPrices i j → (s : ℕ) → views_in turn i s ≡ views_in turn j s
same_views turn i j h s =
    ap (λ (x : State). views_of i.args s x) (same_states turn i j h s) ∙ ap (λ (args : List (List ℕ)). views_of args s (state_at turn j s)) h.arguments

same_outcomes : (turn : ViewParts → OutcomeParts) (i j : Input) → DifferInLimitAndPrices i j → (s : ℕ) → outcomes_in turn i s ≡ outcomes_in turn j s
same_outcomes turn i j h s = ap (map turn) (same_views turn i j h s)

same_ends : (turn : ViewParts → OutcomeParts) (i j : Input) → DifferInLimitAndPrices i j → (s : ℕ) → end_in turn i s ≡ end_in turn j s
same_ends turn i j h s =
    ap (λ (x : State). end_of s x.table (outcomes_in turn i s)) (same_states turn i j h s)
    ∙ ap (λ (os : List OutcomeParts). end_of s (state_at turn j s).table os) (same_outcomes turn i j h s)

-- the outcomes of a superstep that ended by delivery
left_in : (turn : ViewParts → OutcomeParts) (i : Input) (s : ℕ) → input_fault i ≡ None → s < length (run turn i).past → (superstep_at (run turn i).past s).outcomes ≡ outcomes_in turn i s
left_in turn i s lawful l =
    let at = front (run turn i) s l in
    ap (λ (x : Superstep). x.outcomes) (sym at.1) ∙ (IsBspRun-run turn i lawful).outcomes s at.0

inside_past : (r : Run) (s d : ℕ) → d < length (superstep_at r.past s).outcomes → s < length r.past
inside_past r s d l =
    elim (cases_lt s (length r.past)) [
      | inl w ↦ w
      | inr w ↦ absurd (omega (arith, l, ap (λ (x : Superstep). length x.outcomes) (superstep_at-past_end r.past s w)))
    ]

pub goes_on_after : LimitsAndPricesGoOn
goes_on_after turn looks i j update lawful_i lawful_j h is =
    let old = run turn i in
    let new = run turn j in
    record {
      executed = λ q c.
          let x = (is.executed q).0 c in
          elim (cases_lt q.step (length (supersteps_of old))) [
            | inl w ↦
                let before = seen turn i q.step lawful_i w in
                let after = seen turn j q.step lawful_j (inside_news turn j q.step q.pid x.0) in
                let same : (superstep_at (supersteps_of old) q.step).views ≡ (superstep_at (supersteps_of new) q.step).views = before ∙ same_views turn i j h q.step ∙ sym after in
                absurd (x.1 (served looks (supersteps_of old) (supersteps_of new) q (omega (arith, x.0, ap (λ (vs : List ViewParts). length vs) same)) (ap (λ (vs : List ViewParts). get_or vs q.pid no_view) same)))
            | inr w ↦ w
          ];
      redelivered = λ q c.
          let x = (is.redelivered q).0 c in
          elim (cases_lt q.step (length old.past)) [
            | inl w ↦
                let before = left_in turn i q.step lawful_i w in
                let after = left_in turn j q.step lawful_j (inside_past new q.step q.pid x.0) in
                let same : (superstep_at old.past q.step).outcomes ≡ (superstep_at new.past q.step).outcomes = before ∙ same_outcomes turn i j h q.step ∙ sym after in
                absurd (x.1 record { there = omega (arith, x.0, ap (λ (os : List OutcomeParts). length os) same); same = ap (λ (os : List OutcomeParts). delivery_parts os q.pid) same })
            | inr w ↦ w
          ];
    }

-- with a limit that is no higher there is no superstep more

fewer : (turn : ViewParts → OutcomeParts) (i j : Input) → input_fault i ≡ None → input_fault j ≡ None → DifferInLimitAndPrices i j → j.limit ≤ i.limit → length (supersteps_of (run turn i)) < length (supersteps_of (run turn j)) → ⊥
fewer turn i j lawful_i lawful_j h low less =
    let x = IsBspRun-run turn i lawful_i in
    let y = IsBspRun-run turn j lawful_j in
    let n = length (supersteps_of (run turn i)) in
    let none = same_ends turn i j h (n - 1) ∙ y.goes_on (n - 1) (omega (arith, x.some, less)) in
    omega (arith, x.cut (x.phase ∙ ap (λ o. Ended (unwrap_or o Limit)) none), y.few, low, less)

fewer_delivered : (b : Bool) (turn : ViewParts → OutcomeParts) (i j : Input) → input_fault i ≡ None → input_fault j ≡ None → DifferInLimitAndPrices i j → j.limit ≤ i.limit → is_limit (run turn i).phase ≡ b → length (run turn i).past < length (run turn j).past → ⊥
fewer_delivered true turn i j lawful_i lawful_j h low b less =
    let x = IsBspRun-run turn i lawful_i in
    let y = IsBspRun-run turn j lawful_j in
    let count = count_past true (run turn i) (ap is_ended x.phase) b in
    let full = x.cut (limit_phase (run turn i).phase b) in
    let inside = front (run turn j) (length (run turn i).past) less in
    omega (arith, count, full, low, y.few, inside.0)
fewer_delivered false turn i j lawful_i lawful_j h low b less =
    let x = IsBspRun-run turn i lawful_i in
    let some = (lawful_input j lawful_j).some_superstep in
    let count = count_past false (run turn i) (ap is_ended x.phase) b in
    let n = length (supersteps_of (run turn i)) in
    let at : n - 1 ≡ length (run turn i).past = omega (arith, count) in
    let none = ap (end_in turn i) at ∙ same_ends turn i j h (length (run turn i).past) ∙ (IsRecord-run turn j some).goes_on (length (run turn i).past) less in
    false≢true (sym b ∙ ap is_limit (x.phase ∙ ap (λ o. Ended (unwrap_or o Limit)) none))

pub lower_limits : LowerLimitsDoNothing
lower_limits turn looks i j update lawful_i lawful_j h low is =
    let on = goes_on_after turn looks i j update lawful_i lawful_j h is in
    record {
      executed = nothing_there update.executed (λ q c.
          let inside = inside_news turn j q.step q.pid ((is.executed q).0 c).0 in
          fewer turn i j lawful_i lawful_j h low (omega (arith, on.executed q c, inside)));
      redelivered = nothing_there update.redelivered (λ q c.
          let inside = inside_past (run turn j) q.step q.pid ((is.redelivered q).0 c).0 in
          fewer_delivered (is_limit (run turn i).phase) turn i j lawful_i lawful_j h low refl (omega (arith, on.redelivered q c, inside)));
    }
