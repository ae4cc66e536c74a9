-- The update of an opening takes every turn and makes every delivery of the run, so it costs what the run costs.
use Rattle.std.proofs.Common.{◌≡◌, ℕ, zero, suc, ◌+◌, ◌-◌, ◌*◌, ◌<◌, ◌≤◌, ◌==◌, ◌||◌, Bool, true, false, List, [], ◌∷◌, None, Some, filter, get_or, length, map, refl, sym, ap, ◌∙◌, subst, arith, inl, inr}
use Rattle.std.specs.List.{range_with_len}
use Rattle.std.proofs.lemmas.Bool.{cases_eq, cases_lt, eq-eqb}
use Rattle.std.proofs.lemmas.List.{get_or-map, length-map}
use Rattle.std.proofs.lemmas.List.FromFn.{fill_by_all}
use Rattle.std.proofs.lemmas.List.Sums.{sum_by-cons}
use Rattle.bsp_model.specs.declared.cost.CostRow.{CostRow}
use Rattle.bsp_model.specs.declared.input.Input.{Input}
use Rattle.bsp_model.specs.Input.{input_fault}
use Rattle.bsp_model.specs.declared.fault.End.{End}
use Rattle.bsp_model.specs.declared.request.Get.{Get}
use Rattle.bsp_step.specs.Act.{Act}
use Rattle.bsp_step.specs.Turn.{turn_of}
use Rattle.bsp_step.specs.ViewParts.{ViewParts}
use Rattle.bsp_step.specs.OutcomeParts.{OutcomeParts, no_outcome, outcome_of}
use Rattle.bsp_deliver.specs.Condition.{AreDeliverable}
use Rattle.bsp_deliver.specs.Cost.{largest, h_relation}
use Rattle.bsp_run.specs.declared.superstep.Superstep.{Superstep}
use Rattle.bsp_run.specs.Condition.{IsRun}
use Rattle.bsp_run.specs.Law.{IsBspRun}
use Rattle.bsp_run.specs.Result.{costs_of, largest_work, total_of}
use Rattle.bsp_run.specs.Run.{Run}
use Rattle.bsp_run.specs.State.{State}
use Rattle.bsp_run.specs.Supersteps.{no_superstep, superstep_at, supersteps_of}
use Rattle.bsp_run.proofs.OneRun.{front, one_run}
use Rattle.bsp_run.proofs.Records.{count-outcomes_in, count-state_at, count-views_in}
use Rattle.bsp_incr.specs.declared.reply.Update.{Update}
use Rattle.bsp_incr.specs.Exact.{IsExact}
use Rattle.bsp_causes.specs.declared.costs.StepCost.{StepCost}
use Rattle.bsp_causes.specs.Inside.Travel.{reads_other}
use Rattle.bsp_causes.specs.Travel.{has_some, outcomes_again}
use Rattle.bsp_causes.specs.UpdateCost.{is_one_of, is_redone, is_synchronised, outcomes_at, processes_at, row_again, step_cost, total_again, travelling, update_cost, work_of}
use Rattle.bsp_causes.proofs.Travelling.{again-agree, targets_below}
use Rattle.bsp_laws.specs.Costs.{OpeningsCostTheRun, no_costs, numbered}
use Rattle.bsp_laws.proofs.PlacesAt.{all_at}
use Rattle.bsp_laws.proofs.RowsOf.{cost_delivered, cost_ended, count_costs, filter_all, row_delivered, row_ended}
use Rattle.bsp_laws.proofs.RunsWithin.{run_is_run}

-- the work of all is the largest work
work-all : (os : List OutcomeParts) (n : ℕ) → length os ≡ n → work_of (range_with_len 0 n) os ≡ largest_work os
work-all os n count =
    let work : OutcomeParts → ℕ = λ o. o.work in
    ap largest (sym (fill_by_all (λ p. work (outcome_of os p)) (map work os) n 0 (length-map os work ∙ count) (λ k l. get_or-map work os k no_outcome 0 (omega (arith, l, count)))))

-- every process is one of all
is_one-all : (a n p : ℕ) → a ≤ p → p < a + n → is_one_of (range_with_len a n) p ≡ true
is_one-all a zero p l k = absurd (omega arith)
is_one-all a (suc n) p l k =
    elim (cases_eq a p) [
      | inl e ↦ ap (λ b. b || is_one_of (range_with_len (a + 1) n) p) (eq-eqb a p e)
      | inr ne ↦ ap (λ b. (a == p) || b) (is_one-all (a + 1) n p (omega arith) (omega arith)) ∙ elim (a == p) as (λ b. (b || true) ≡ true) [ true ↦ refl | false ↦ refl ]
    ]

filter_every : {R : Type 0} (rs : List R) → filter (λ (r : R). true) rs ≡ rs
filter_every [] = refl
filter_every (r ∷ rs) = ap (λ xs. r ∷ xs) (filter_every rs)

-- where all was done again, all requests travel
again_every : (r : Get → Bool) (a : ℕ) (os : List OutcomeParts) → outcomes_again (λ _. true) (λ _. true) r a os ≡ os
again_every r a [] = refl
again_every r a (o ∷ os) =
    let puts = filter_every o.puts in
    let sends = filter_every o.sends in
    let rest = again_every r (a + 1) os in
    (λ i. record o { puts = puts i; sends = sends i } ∷ rest i)

travels-all : (n : ℕ) (r : Get → Bool) (ts ds : List ℕ) (os : List OutcomeParts) → ts ≡ range_with_len 0 n → ds ≡ range_with_len 0 n → length os ≡ n → AreDeliverable os → outcomes_again (is_one_of ts) (is_one_of ds) r 0 os ≡ os
travels-all n r ts ds os t d count known =
    let every : (p : ℕ) → p < n → is_one_of (range_with_len 0 n) p ≡ true = λ p l. is_one-all 0 n p (omega arith) (omega arith) in
    (λ i. outcomes_again (is_one_of (t i)) (is_one_of (d i)) r 0 os)
    ∙ again-agree (is_one_of (range_with_len 0 n)) (λ _. true) (is_one_of (range_with_len 0 n)) (λ _. true) r n 0 os every every (omega arith) (targets_below n os (omega arith) known)
    ∙ again_every r 0 os

-- what is known of the run and of the update of its opening
record IsOpened (n : ℕ) (r : Run) (u : Update) : Type 0 where
  pub turns : (s : ℕ) → s < length (supersteps_of r) → processes_at u.executed s ≡ range_with_len 0 n
  pub deliveries : (s : ℕ) → s < length r.past → processes_at u.redelivered s ≡ range_with_len 0 n
  pub counts : (s : ℕ) → s < length (supersteps_of r) → length (outcomes_at (Some r) s) ≡ n
  pub known : (s : ℕ) → s < length r.past → AreDeliverable (outcomes_at (Some r) s)

-- the row of a superstep is that of the run
row-opened : (n : ℕ) (r : Run) (u : Update) (s : ℕ) → IsOpened n r u → s < length (supersteps_of r) → row_again None r s (processes_at u.executed s) (processes_at u.redelivered s) ≡ get_or (costs_of r) s no_costs
unfolding is_synchronised
row-opened n r u s h l =
    let ts = processes_at u.executed s in
    let ds = processes_at u.redelivered s in
    let os = outcomes_at (Some r) s in
    let w : work_of ts os ≡ largest_work os = ap (λ ps. work_of ps os) (h.turns s l) ∙ work-all os n (h.counts s l) in
    elim (cases_lt s (length r.past)) [
      | inl k ↦
          let m : h_relation (travelling None r s ts ds os) ≡ h_relation os =
          ap h_relation (travels-all n (reads_other (outcomes_at None s) os) ts ds os (h.turns s l) (h.deliveries s k) (h.counts s l) (h.known s k)) in
          row_delivered None r s ts ds k ∙ (λ i. record { work = w i; h = m i; cost = w i + m i * r.g + r.l }) ∙ sym (cost_delivered r s k)
      | inr k ↦ row_ended None r s ts ds k ∙ (λ i. record { work = w i; h = 0; cost = w i }) ∙ sym (cost_ended r s k l)
    ]

-- in each superstep something was done again
redone-opened : (n : ℕ) (r : Run) (u : Update) (s : ℕ) → IsOpened (suc n) r u → s < length (supersteps_of r) → is_redone u s ≡ true
redone-opened n r u s h l = ap (λ ps. has_some ps || has_some (processes_at u.redelivered s)) (h.turns s l)

numbered-is : (f : ℕ → StepCost) (a : ℕ) (cs : List CostRow) → ((k : ℕ) → k < length cs → f (a + k) ≡ record { step = a + k; row = get_or cs k no_costs }) → map f (range_with_len a (length cs)) ≡ numbered a cs
numbered-is f a [] h = refl
numbered-is f a (c ∷ cs) h =
    let at : a + 0 ≡ a = omega arith in
    let first : f a ≡ record { step = a; row = c } = sym (ap f at) ∙ h 0 (omega arith) ∙ ap (λ k. record { step = k; row = c }) at in
    let later = numbered-is f (a + 1) cs (λ k l. let next : a + 1 + k ≡ a + suc k = omega arith in ap f next ∙ h (suc k) (omega arith) ∙ ap (λ j. record { step = j; row = get_or cs k no_costs }) (sym next)) in
    (λ i. first i ∷ later i)

total-numbered : (s : ℕ) (rows : List CostRow) → total_again (numbered s rows) ≡ total_of rows
total-numbered s [] = refl
total-numbered s (row ∷ rows) =
    sum_by-cons (λ (r : StepCost). r.row.cost) (record { step = s; row = row }) (numbered (s + 1) rows) ∙ ap (λ n. row.cost + n) (total-numbered (s + 1) rows)
    ∙ sym (sum_by-cons (λ (r : CostRow). r.cost) row rows)

opened_rows : (n : ℕ) (r : Run) (u : Update) → IsOpened (suc n) r u → map (step_cost None r u) (filter (is_redone u) (range_with_len 0 (length (supersteps_of r)))) ≡ numbered 0 (costs_of r)
opened_rows n r u h =
    let f = step_cost None r u in
    let m = length (supersteps_of r) in
    ap (map f) (filter_all (is_redone u) 0 m (λ k low high. redone-opened n r u k h (omega arith)))
    ∙ ap (λ k. map f (range_with_len 0 k)) (sym (count_costs r))
    ∙ numbered-is f 0 (costs_of r) (λ k l. let at : 0 + k ≡ k = omega arith in
    let inside : k < m = omega (arith, l, count_costs r) in
    ap f at ∙ ap (λ (row : CostRow). record { step = k; row = row }) (row-opened (suc n) r u k h inside) ∙ ap (λ j. record { step = j; row = get_or (costs_of r) k no_costs }) (sym at))

-- what an opening takes and delivers
opened : (acts : ViewParts → List Act) (ending : ViewParts → End) (looks : ViewParts → ℕ → Bool) (input : Input) (r : Run) (u : Update) → input_fault input ≡ None → IsBspRun (turn_of acts ending) input r → IsExact looks None r u
    → IsOpened (length input.mems) r u
opened acts ending looks input r u lawful law is =
    let turn = turn_of acts ending in
    let n = length input.mems in
    let within : IsRun r = subst IsRun (sym ((one_run turn input r lawful).0 law)) (run_is_run acts ending input lawful) in
    let views : (s : ℕ) → s < length (supersteps_of r) → length (superstep_at (supersteps_of r) s).views ≡ n = λ s l. ap (λ (vs : List ViewParts). length vs) (law.views s l) ∙ count-views_in turn input s in
    let counts : (s : ℕ) → s < length (supersteps_of r) → length (superstep_at (supersteps_of r) s).outcomes ≡ n = λ s l. ap (λ (os : List OutcomeParts). length os) (law.outcomes s l) ∙ count-outcomes_in turn input s in
    record {
      turns = λ s l. all_at u.executed s n is.executed_in_order (λ q.
          let both = is.executed (record { step = s; pid = q }) in
          (λ c. omega (arith, (both.0 c).0, views s l), λ k. both.1 (omega (arith, k, views s l), λ served. omega (arith, served.there))));
      deliveries = λ s l. let at = front r s l in
          let count = ap (λ (x : Superstep). length x.outcomes) (sym at.1) ∙ counts s at.0 in
          all_at u.redelivered s n is.redelivered_in_order (λ q.
          let both = is.redelivered (record { step = s; pid = q }) in
          (λ c. omega (arith, (both.0 c).0, count), λ k. both.1 (omega (arith, k, count), λ kept. omega (arith, kept.there))));
      counts = counts;
      known = λ s l. subst (λ (x : Superstep). AreDeliverable x.outcomes) (sym (front r s l).1) (within.past s no_superstep l);
    }

-- there is a process
some_process : (turn : ViewParts → OutcomeParts) (input : Input) (r : Run) → IsBspRun turn input r → IsRun r → 1 ≤ length input.mems
some_process turn input r law within =
    omega (arith, within.state.some, ap (λ (s : State). length s.memories) law.state, count-state_at turn input (length r.past))

pub opening_costs : OpeningsCostTheRun
unfolding update_cost
opening_costs acts ending looks input r u lawful law is =
    let turn = turn_of acts ending in
    let within : IsRun r = subst IsRun (sym ((one_run turn input r lawful).0 law)) (run_is_run acts ending input lawful) in
    let n = length input.mems - 1 in
    let count : length input.mems ≡ suc n = omega (arith, some_process turn input r law within) in
    let whole : IsOpened (suc n) r u = subst (λ m. IsOpened m r u) count (opened acts ending looks input r u lawful law is) in
    ap (λ (rows : List StepCost). record { rows = rows; total = total_again rows }) (opened_rows n r u whole)
    ∙ (λ i. record { rows = numbered 0 (costs_of r); total = total-numbered 0 (costs_of r) i })
