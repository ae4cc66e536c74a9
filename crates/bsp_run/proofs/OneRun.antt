-- There is one run of a lawful input.
use Rattle.std.proofs.Common.{◌≡◌, ◌<◌, ◌+◌, ◌-◌, ℕ, Bool, true, false, cond, List, [], ◌∷◌, None, length, unwrap_or, arith, refl, sym, ap, ◌∙◌, subst, length-append, inl, inr}
use Rattle.std.proofs.lemmas.Bool.{cases_lt}
use Rattle.std.proofs.lemmas.Grind.{common_steps}
use Rattle.std.proofs.lemmas.List.{ext_get_or}
use Rattle.bsp_model.specs.declared.input.Input.{Input}
use Rattle.bsp_step.specs.ViewParts.{ViewParts}
use Rattle.bsp_step.specs.OutcomeParts.{OutcomeParts}
use Rattle.bsp_run.specs.declared.result.Status.TheVariants.{Limit}
use Rattle.bsp_run.specs.declared.phase.Phase.TheVariants.{Ended}
use Rattle.bsp_run.specs.declared.superstep.Superstep.{Superstep}
use Rattle.bsp_run.specs.Run.{Run, run, is_limit}
use Rattle.bsp_run.specs.Supersteps.{no_superstep, superstep_at, open_superstep, last_superstep, supersteps_of}
use Rattle.bsp_run.specs.Law.{state_at, end_in, IsBspRun, OneRun}
use Rattle.bsp_run.specs.Condition.{is_ended}
use Rattle.bsp_run.proofs.Records.{opened-last}
use Rattle.bsp_run.proofs.Laws.{limit_phase, supersteps-limit, supersteps-ended, IsBspRun-run}

-- neither of two runs has fewer supersteps
not_shorter : (turn : ViewParts → OutcomeParts) (input : Input) (r q : Run) → IsBspRun turn input r → IsBspRun turn input q → length (supersteps_of r) < length (supersteps_of q) → ⊥
not_shorter turn input r q h k less =
    let none : end_in turn input (length (supersteps_of r) - 1) ≡ None = k.goes_on (length (supersteps_of r) - 1) (omega (arith, h.some, less)) in
    let full : length (supersteps_of r) ≡ input.limit = h.cut (h.phase ∙ ap (λ o. Ended (unwrap_or o Limit)) none) in
    omega (arith, full, k.few, less)

same_count : (turn : ViewParts → OutcomeParts) (input : Input) (r q : Run) → IsBspRun turn input r → IsBspRun turn input q → length (supersteps_of r) ≡ length (supersteps_of q)
same_count turn input r q h k =
    elim (cases_lt (length (supersteps_of r)) (length (supersteps_of q))) [
      | inl less ↦ absurd (not_shorter turn input r q h k less)
      | inr most ↦
          elim (cases_lt (length (supersteps_of q)) (length (supersteps_of r))) [
            | inl more ↦ absurd (not_shorter turn input q r k h more)
            | inr least ↦ omega (arith, most, least)
          ]
    ]

-- how it ended
same_phase : (turn : ViewParts → OutcomeParts) (input : Input) (r q : Run) → IsBspRun turn input r → IsBspRun turn input q → r.phase ≡ q.phase
same_phase turn input r q h k = h.phase ∙ ap (λ n. Ended (unwrap_or (end_in turn input (n - 1)) Limit)) (same_count turn input r q h k) ∙ sym k.phase

-- how many of its supersteps ended by delivery
pub count_past : (b : Bool) (r : Run) → is_ended r.phase ≡ true → is_limit r.phase ≡ b → length r.past + cond b 0 1 ≡ length (supersteps_of r)
count_past true r e h = omega (arith, ap (λ (xs : List Superstep). length xs) (supersteps-limit r e h))
count_past false r e h = sym (ap (λ (xs : List Superstep). length xs) (supersteps-ended r e h) ∙ length-append r.past (open_superstep r ∷ []))

same_past_count : (turn : ViewParts → OutcomeParts) (input : Input) (r q : Run) → IsBspRun turn input r → IsBspRun turn input q → length r.past ≡ length q.past
same_past_count turn input r q h k =
    let b = is_limit q.phase in
    let one = count_past b r (ap is_ended h.phase) (ap is_limit (same_phase turn input r q h k)) in
    let other = count_past b q (ap is_ended k.phase) refl in
    omega (arith, one, other, same_count turn input r q h k)

same_superstep : (x y : Superstep) → x.views ≡ y.views → x.outcomes ≡ y.outcomes → x ≡ y
same_superstep x y vs os = λ i. record { views = vs i; outcomes = os i }

same_at : (turn : ViewParts → OutcomeParts) (input : Input) (r q : Run) → IsBspRun turn input r → IsBspRun turn input q → (s : ℕ) → s < length (supersteps_of r) → superstep_at (supersteps_of r) s ≡ superstep_at (supersteps_of q) s
same_at turn input r q h k s l =
    let m : s < length (supersteps_of q) = omega (arith, l, same_count turn input r q h k) in
    same_superstep (superstep_at (supersteps_of r) s) (superstep_at (supersteps_of q) s) (h.views s l ∙ sym (k.views s m)) (h.outcomes s l ∙ sym (k.outcomes s m))

pub front : (r : Run) (s : ℕ) → s < length r.past → (s < length (supersteps_of r)) × (superstep_at (supersteps_of r) s ≡ superstep_at r.past s)
front r s l =
    let long = length-append r.past (last_superstep r) in
    (omega (arith, l, long), grind (arith, common_steps))

same_past : (turn : ViewParts → OutcomeParts) (input : Input) (r q : Run) → IsBspRun turn input r → IsBspRun turn input q → r.past ≡ q.past
same_past turn input r q h k =
    let count = same_past_count turn input r q h k in
    ext_get_or no_superstep r.past q.past count (λ s l.
    let one = front r s l in
    let other = front q s (omega (arith, l, count)) in
    sym one.1 ∙ same_at turn input r q h k s one.0 ∙ other.1)

-- the outcomes of the superstep that ended it

pub last_one : (r : Run) → is_ended r.phase ≡ true → is_limit r.phase ≡ false → (length r.past < length (supersteps_of r)) × ((superstep_at (supersteps_of r) (length r.past)).outcomes ≡ r.outcomes)
last_one r e b =
    let count = count_past false r e b in
    let last = ap (λ (ss : List Superstep). superstep_at ss (length r.past)) (supersteps-ended r e b) ∙ opened-last r in
    (omega (arith, count), ap (λ (x : Superstep). x.outcomes) last)

same_outcomes_if : (b : Bool) (turn : ViewParts → OutcomeParts) (input : Input) (r q : Run) → IsBspRun turn input r → IsBspRun turn input q → is_limit r.phase ≡ b → is_limit q.phase ≡ b → r.outcomes ≡ q.outcomes
same_outcomes_if true turn input r q h k b c = h.untaken (limit_phase r.phase b) ∙ sym (k.untaken (limit_phase q.phase c))
same_outcomes_if false turn input r q h k b c =
    let one = last_one r (ap is_ended h.phase) b in
    let other = last_one q (ap is_ended k.phase) c in
    sym one.1 ∙ ap (λ (x : Superstep). x.outcomes) (same_at turn input r q h k (length r.past) one.0)
    ∙ ap (λ n. (superstep_at (supersteps_of q) n).outcomes) (same_past_count turn input r q h k) ∙ other.1

same_run : (turn : ViewParts → OutcomeParts) (input : Input) (r q : Run) → IsBspRun turn input r → IsBspRun turn input q → r ≡ q
same_run turn input r q h k =
    let phase : r.phase ≡ q.phase = same_phase turn input r q h k in
    let args : r.args ≡ q.args = h.args ∙ sym k.args in
    let limit : r.limit ≡ q.limit = h.limit ∙ sym k.limit in
    let g : r.g ≡ q.g = h.g ∙ sym k.g in
    let l : r.l ≡ q.l = h.l ∙ sym k.l in
    let past : r.past ≡ q.past = same_past turn input r q h k in
    let state : r.state ≡ q.state = h.state ∙ ap (state_at turn input) (same_past_count turn input r q h k) ∙ sym k.state in
    let outcomes : r.outcomes ≡ q.outcomes = same_outcomes_if (is_limit q.phase) turn input r q h k (ap is_limit phase) refl in
    λ i. record { args = args i; limit = limit i; g = g i; l = l i; past = past i; state = state i; outcomes = outcomes i; phase = phase i }

pub one_run : OneRun
one_run turn input r lawful =
    let is = IsBspRun-run turn input lawful in
    (λ h. same_run turn input r (run turn input) h is, λ e. subst (IsBspRun turn input) (sym e) is)
