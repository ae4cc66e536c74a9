-- What was done again is part of the run, so it costs at most what the run costs.
use Rattle.std.proofs.Common.{◌≡◌, ℕ, zero, suc, ◌+◌, ◌*◌, ◌<◌, ◌≤◌, ◌&&◌, ◌==◌, Bool, true, false, cond, not, List, [], ◌∷◌, ◌++◌, All, Option, Some, filter, length, map, get_or, sum_by, refl, sym, ap, ◌∙◌, subst, arith, inl, inr}
use Rattle.std.specs.List.{range_with_len}
use Rattle.std.proofs.Math.Nat.{mul-le-mul_left, mul_comm}
use Rattle.std.proofs.lemmas.Bool.{cases_lt}
use Rattle.std.proofs.lemmas.List.Elements.{All-filter, All-map}
use Rattle.std.proofs.lemmas.List.Sums.{sum_by-cons}
use Rattle.bsp_model.specs.declared.cost.CostRow.{CostRow}
use Rattle.bsp_model.specs.declared.request.Get.{Get}
use Rattle.bsp_model.specs.declared.request.Put.{Put}
use Rattle.bsp_model.specs.declared.request.Send.{Send}
use Rattle.bsp_step.specs.OutcomeParts.{OutcomeParts, outcome_of}
use Rattle.bsp_deliver.specs.Cost.{Transfer, get_transfer, put_transfer, send_transfer, transfers, count_sent, count_received, largest, h_relation}
use Rattle.bsp_deliver.specs.Requests.{all_gets, all_puts, all_sends, requests_from}
use Rattle.bsp_run.specs.Result.{cost_of_delivery, cost_of_end, costs_of, largest_work, total_of}
use Rattle.bsp_run.specs.Run.{Run}
use Rattle.bsp_run.specs.Supersteps.{supersteps_of}
use Rattle.bsp_incr.specs.declared.reply.Update.{Update}
use Rattle.bsp_causes.specs.Inside.Travel.{reads_other}
use Rattle.bsp_causes.specs.Travel.{outcomes_again, requests_again}
use Rattle.bsp_causes.specs.declared.costs.StepCost.{StepCost}
use Rattle.bsp_causes.specs.UpdateCost.{is_one_of, is_redone, is_synchronised, outcomes_at, processes_at, row_again, step_cost, total_again, travelling, update_cost, work_of}
use Rattle.bsp_causes.proofs.Sums.{total, total-append, total_by_sender}
use Rattle.bsp_causes.proofs.Travelling.{length-again}
use Rattle.bsp_laws.specs.Costs.{IsAtMost, NothingCostsNothing, UpdatesCostAtMostTheRun, no_costs}
use Rattle.bsp_laws.proofs.RowsOf.{all_range, cost_delivered, cost_ended, count_costs, row_delivered, row_ended}

-- the work of some is at most the largest work

work_below : (os : List OutcomeParts) (p : ℕ) → (outcome_of os p).work ≤ largest_work os
work_below [] p = omega arith
work_below (o ∷ os) zero = omega arith
work_below (o ∷ os) (suc p) = omega (arith, work_below os p)

work_at_most : (ps : List ℕ) (os : List OutcomeParts) → work_of ps os ≤ largest_work os
work_at_most [] os = omega arith
work_at_most (p ∷ ps) os = omega (arith, work_below os p, work_at_most ps os)

-- the h-relation of some requests is at most that of all

pub total-cons : (P : Transfer → Bool) (t : Transfer) (ts : List Transfer) → total P (t ∷ ts) ≡ cond (P t) t.count 0 + total P ts
total-cons P t ts =
    elim (P t) as (λ b. sum_by (λ (x : Transfer). x.count) (cond b (t ∷ filter P ts) (filter P ts)) ≡ cond b t.count 0 + total P ts) [
      | true ↦ sum_by-cons (λ (x : Transfer). x.count) t (filter P ts)
      | false ↦ omega arith
    ]

-- some of the requests of one process
some_requests : {R : Type 0} (P : Transfer → Bool) (f : R → Transfer) (test : R → Bool) (rs : List R) → total P (map f (filter test rs)) ≤ total P (map f rs)
some_requests P f test [] = omega arith
some_requests P f test (r ∷ rs) =
    let rest = some_requests P f test rs in
    elim (test r) as (λ b. total P (map f (cond b (r ∷ filter test rs) (filter test rs))) ≤ total P (f r ∷ map f rs)) [
      | true ↦ omega (arith, rest, total-cons P (f r) (map f (filter test rs)), total-cons P (f r) (map f rs))
      | false ↦ omega (arith, rest, total-cons P (f r) (map f rs))
    ]

-- a list of requests that is some of another one
record AreSome {R : Type 0} (f : ℕ → R → Transfer) (of : OutcomeParts → List R) : Type 0 where
  pub each : (P : Transfer → Bool) (p : ℕ) (b : Bool) (D : ℕ → Bool) (r : Get → Bool) (o : OutcomeParts) → total P (map (f p) (of (requests_again b D r o))) ≤ total P (map (f p) (of o))

some_puts : AreSome put_transfer (λ o. o.puts)
some_puts = record {
  each = λ P p b D r o. elim b as (λ x. total P (map (put_transfer p) (requests_again x D r o).puts) ≤ total P (map (put_transfer p) o.puts)) [
    | true ↦ some_requests P (put_transfer p) (λ (q : Put). D q.target) o.puts
    | false ↦ omega arith
  ];
}

some_gets : AreSome get_transfer (λ o. o.gets)
some_gets = record {
  each = λ P p b D r o. elim b as (λ x. total P (map (get_transfer p) (requests_again x D r o).gets) ≤ total P (map (get_transfer p) o.gets)) [
    | true ↦ omega arith
    | false ↦ some_requests P (get_transfer p) r o.gets
  ];
}

some_sends : AreSome send_transfer (λ o. o.sends)
some_sends = record {
  each = λ P p b D r o. elim b as (λ x. total P (map (send_transfer p) (requests_again x D r o).sends) ≤ total P (map (send_transfer p) o.sends)) [
    | true ↦ some_requests P (send_transfer p) (λ (m : Send). D m.target) o.sends
    | false ↦ omega arith
  ];
}

some_from : {R : Type 0} (P : Transfer → Bool) (f : ℕ → R → Transfer) (of : OutcomeParts → List R) (T D : ℕ → Bool) (r : Get → Bool) (n : ℕ) (os : List OutcomeParts) → AreSome f of
    → total P (map (λ (s : ℕ × R). f s.0 s.1) (requests_from of n (outcomes_again T D r n os))) ≤ total P (map (λ (s : ℕ × R). f s.0 s.1) (requests_from of n os))
some_from P f of T D r n [] h = omega arith
some_from P f of T D r n (o ∷ os) h =
    let o' = requests_again (T n) D (λ g. D n && r g) o in
    omega (
      arith,
      total_by_sender P of f n o' (outcomes_again T D r (n + 1) os),
      total_by_sender P of f n o os,
      h.each P n (T n) D (λ g. D n && r g) o,
      some_from P f of T D r (n + 1) os h,
    )

some_transfers : (P : Transfer → Bool) (T D : ℕ → Bool) (r : Get → Bool) (os : List OutcomeParts) → total P (transfers (outcomes_again T D r 0 os)) ≤ total P (transfers os)
unfolding transfers all_puts all_gets all_sends
some_transfers P T D r os =
    let us = outcomes_again T D r 0 os in
    let puts : List OutcomeParts → List Transfer = λ xs. map (λ (p : ℕ × Put). put_transfer p.0 p.1) (requests_from (λ o. o.puts) 0 xs) in
    let gets : List OutcomeParts → List Transfer = λ xs. map (λ (g : ℕ × Get). get_transfer g.0 g.1) (requests_from (λ o. o.gets) 0 xs) in
    let sends : List OutcomeParts → List Transfer = λ xs. map (λ (m : ℕ × Send). send_transfer m.0 m.1) (requests_from (λ o. o.sends) 0 xs) in
    omega (
      arith,
      total-append P (puts us ++ gets us) (sends us),
      total-append P (puts us) (gets us),
      total-append P (puts os ++ gets os) (sends os),
      total-append P (puts os) (gets os),
      some_from P put_transfer (λ o. o.puts) T D r 0 os some_puts,
      some_from P get_transfer (λ o. o.gets) T D r 0 os some_gets,
      some_from P send_transfer (λ o. o.sends) T D r 0 os some_sends,
    )

largest_at_most : (f g : ℕ → ℕ) (ps : List ℕ) → ((p : ℕ) → f p ≤ g p) → largest (map f ps) ≤ largest (map g ps)
largest_at_most f g [] h = omega arith
largest_at_most f g (p ∷ ps) h = omega (arith, h p, largest_at_most f g ps h)

h_at_most : (T D : ℕ → Bool) (r : Get → Bool) (os : List OutcomeParts) → h_relation (outcomes_again T D r 0 os) ≤ h_relation os
unfolding h_relation
h_at_most T D r os =
    let us = outcomes_again T D r 0 os in
    let count : length us ≡ length os = length-again T D r 0 os in
    rw count (
    let ps = range_with_len 0 (length os) in
    omega (
      arith,
      largest_at_most (count_sent (transfers us)) (count_sent (transfers os)) ps (λ p. some_transfers (λ t. (t.source == p) && not (t.target == p)) T D r os),
      largest_at_most (count_received (transfers us)) (count_received (transfers os)) ps (λ p. some_transfers (λ t. (t.target == p) && not (t.source == p)) T D r os),
    ))

-- l, or nothing, is at most l
paid_at_most : (b : Bool) (l : ℕ) → cond b l 0 ≤ l
paid_at_most true l = omega arith
paid_at_most false l = omega arith

at_most_delivery : (old : Option Run) (new : Run) (s : ℕ) (ts ds : List ℕ) → s < length new.past → IsAtMost (row_again old new s ts ds) (get_or (costs_of new) s no_costs)
at_most_delivery old new s ts ds l =
    let os = outcomes_at (Some new) s in
    let us = travelling old new s ts ds os in
    let w = work_at_most ts os in
    let h : h_relation us ≤ h_relation os = h_at_most (is_one_of ts) (is_one_of ds) (reads_other (outcomes_at old s) os) os in
    let paid = paid_at_most (is_synchronised old new s ts ds) new.l in
    let row : IsAtMost (record { work = work_of ts os; h = h_relation us; cost = work_of ts os + h_relation us * new.g + cond (is_synchronised old new s ts ds) new.l 0 }) (cost_of_delivery new.g new.l os) =
    record { work = w; h = h; cost = omega (arith, w, paid, mul-le-mul_left new.g h, mul_comm new.g (h_relation os), mul_comm new.g (h_relation us)) } in
    subst (λ (x : CostRow). IsAtMost x (get_or (costs_of new) s no_costs)) (sym (row_delivered old new s ts ds l))
    (subst (λ (x : CostRow). IsAtMost (record { work = work_of ts os; h = h_relation us; cost = work_of ts os + h_relation us * new.g + cond (is_synchronised old new s ts ds) new.l 0 }) x) (sym (cost_delivered new s l)) row)

at_most_end : (old : Option Run) (new : Run) (s : ℕ) (ts ds : List ℕ) → length new.past ≤ s → s < length (supersteps_of new) → IsAtMost (row_again old new s ts ds) (get_or (costs_of new) s no_costs)
at_most_end old new s ts ds l k =
    let os = outcomes_at (Some new) s in
    let w = work_at_most ts os in
    let row : IsAtMost (record { work = work_of ts os; h = 0; cost = work_of ts os }) (cost_of_end os) = record { work = w; h = omega arith; cost = w } in
    subst (λ (x : CostRow). IsAtMost x (get_or (costs_of new) s no_costs)) (sym (row_ended old new s ts ds l))
    (subst (λ (x : CostRow). IsAtMost (record { work = work_of ts os; h = 0; cost = work_of ts os }) x) (sym (cost_ended new s l k)) row)

row_at_most : (old : Option Run) (new : Run) (s : ℕ) (ts ds : List ℕ) → s < length (supersteps_of new) → IsAtMost (row_again old new s ts ds) (get_or (costs_of new) s no_costs)
row_at_most old new s ts ds l =
    elim (cases_lt s (length new.past)) [
      | inl k ↦ at_most_delivery old new s ts ds k
      | inr k ↦ at_most_end old new s ts ds k l
    ]

-- the sum

some_sum : (f : ℕ → StepCost) (g : ℕ → ℕ) (test : ℕ → Bool) (a n : ℕ) → ((k : ℕ) → a ≤ k → k < a + n → (f k).row.cost ≤ g k) → total_again (map f (filter test (range_with_len a n))) ≤ sum_by g (range_with_len a n)
some_sum f g test a zero h = omega arith
some_sum f g test a (suc n) h =
    let xs = range_with_len (a + 1) n in
    let here = h a (omega arith) (omega arith) in
    let rest = some_sum f g test (a + 1) n (λ k low high. h k (omega arith) (omega arith)) in
    elim (test a) as (λ b. total_again (map f (cond b (a ∷ filter test xs) (filter test xs))) ≤ sum_by g (a ∷ xs)) [
      | true ↦ omega (arith, here, rest, sum_by-cons (λ (r : StepCost). r.row.cost) (f a) (map f (filter test xs)), sum_by-cons g a xs)
      | false ↦ omega (arith, rest, sum_by-cons g a xs)
    ]

sum_range : (g : ℕ → ℕ) (a : ℕ) (cs : List CostRow) → ((k : ℕ) → k < length cs → g (a + k) ≡ (get_or cs k no_costs).cost) → sum_by g (range_with_len a (length cs)) ≡ total_of cs
sum_range g a [] h = refl
sum_range g a (c ∷ cs) h =
    let at : a + 0 ≡ a = omega arith in
    let here : g a ≡ c.cost = sym (ap g at) ∙ h 0 (omega arith) in
    let rest = sum_range g (a + 1) cs (λ k l. let next : a + 1 + k ≡ a + suc k = omega arith in ap g next ∙ h (suc k) (omega arith)) in
    omega (arith, here, rest, sum_by-cons g a (range_with_len (a + 1) (length cs)), sum_by-cons (λ (x : CostRow). x.cost) c cs)

pub at_most : UpdatesCostAtMostTheRun
unfolding update_cost
at_most old run update =
    let n = length (supersteps_of run) in
    let count = count_costs run in
    let f = step_cost old run update in
    let each : (s : ℕ) → s < n → IsAtMost (f s).row (get_or (costs_of run) s no_costs) = λ s l. row_at_most old run s (processes_at update.executed s) (processes_at update.redelivered s) l in
    let cost : ℕ → ℕ = λ s. (get_or (costs_of run) s no_costs).cost in
    let sum : sum_by cost (range_with_len 0 (length (costs_of run))) ≡ total_of (costs_of run) = sum_range cost 0 (costs_of run) (λ k l. let at : 0 + k ≡ k = omega arith in ap cost at) in
    let some : total_again (map f (filter (is_redone update) (range_with_len 0 n))) ≤ sum_by cost (range_with_len 0 n) = some_sum f cost (is_redone update) 0 n (λ k low high. (each k (omega arith)).cost) in
    let same : sum_by cost (range_with_len 0 n) ≡ total_of (costs_of run) = ap (λ m. sum_by cost (range_with_len 0 m)) (sym count) ∙ sum in
    record {
      rows = All-map (λ (r : StepCost). IsAtMost r.row (get_or (costs_of run) r.step no_costs)) f (filter (is_redone update) (range_with_len 0 n))
          (All-filter (is_redone update) (λ s. IsAtMost (f s).row (get_or (costs_of run) s no_costs)) (range_with_len 0 n) (all_range (λ s. IsAtMost (f s).row (get_or (costs_of run) s no_costs)) 0 n (λ k low high. each k (omega arith))));
      total = omega (arith, some, same);
    }

-- where nothing was done, there is no row
none_redone : (a n : ℕ) → filter (is_redone (record { executed = []; redelivered = [] })) (range_with_len a n) ≡ []
none_redone a zero = refl
none_redone a (suc n) = none_redone (a + 1) n

pub nothing_costs : NothingCostsNothing
unfolding update_cost
nothing_costs old run update none =
    let n = length (supersteps_of run) in
    let same : update ≡ record { executed = []; redelivered = [] } = λ i. record { executed = none.executed i; redelivered = none.redelivered i } in
    ap (λ (u : Update). update_cost old run u) same
    ∙ ap (λ ss. record { rows = map (step_cost old run (record { executed = []; redelivered = [] })) ss; total = total_again (map (step_cost old run (record { executed = []; redelivered = [] })) ss) }) (none_redone 0 n)
