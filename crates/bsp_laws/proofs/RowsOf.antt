-- The rows of an update beside those of its run, superstep by superstep.
use Rattle.std.proofs.Common.{◌≡◌, ℕ, zero, suc, ◌+◌, ◌*◌, ◌<◌, ◌≤◌, Bool, true, false, cond, nat_lt, List, [], ◌∷◌, ◌++◌, Option, Some, All, filter, length, map, get_or, refl, sym, ap, ◌∙◌, arith}
use Rattle.std.specs.List.{range_with_len}
use Rattle.std.proofs.lemmas.List.{length-append, length-map}
use Rattle.std.proofs.lemmas.List.Sums.{sum_by-cons}
use Rattle.bsp_model.specs.declared.cost.CostRow.{CostRow}
use Rattle.bsp_step.specs.OutcomeParts.{OutcomeParts}
use Rattle.bsp_deliver.specs.Cost.{h_relation}
use Rattle.bsp_run.specs.declared.superstep.Superstep.{Superstep}
use Rattle.bsp_run.specs.Result.{cost_of_delivery, cost_of_end, costs_of, total_of}
use Rattle.bsp_run.specs.Run.{Run}
use Rattle.bsp_run.specs.Supersteps.{last_superstep, no_superstep, outcomes_of, supersteps_of}
use Rattle.bsp_causes.proofs.Cases.{lt_holds, lt_fails}
use Rattle.bsp_causes.specs.UpdateCost.{is_synchronised, outcomes_at, row_again, travelling, work_of}
use Rattle.bsp_laws.specs.Costs.{no_costs}

-- the costs of a run at a place, from those of the supersteps that ended by delivery and of those that did not

front_cost : (f g : List OutcomeParts → CostRow) (xs ys : List Superstep) (s : ℕ) → s < length xs
    → get_or (map f (outcomes_of xs) ++ map g (outcomes_of ys)) s no_costs ≡ f (get_or (xs ++ ys) s no_superstep).outcomes
front_cost f g [] ys s l = absurd (omega arith)
front_cost f g (x ∷ xs) ys zero l = refl
front_cost f g (x ∷ xs) ys (suc s) l = front_cost f g xs ys s (omega arith)

back_cost : (f g : List OutcomeParts → CostRow) (xs ys : List Superstep) (s : ℕ) → length xs ≤ s → s < length (xs ++ ys)
    → get_or (map f (outcomes_of xs) ++ map g (outcomes_of ys)) s no_costs ≡ g (get_or (xs ++ ys) s no_superstep).outcomes
back_cost f g [] [] s l k = absurd (omega arith)
back_cost f g [] (y ∷ ys) zero l k = refl
back_cost f g [] (y ∷ ys) (suc s) l k = back_cost f g [] ys s (omega arith) (omega arith)
back_cost f g (x ∷ xs) ys zero l k = absurd (omega arith)
back_cost f g (x ∷ xs) ys (suc s) l k = back_cost f g xs ys s (omega arith) (omega arith)

pub cost_delivered : (r : Run) (s : ℕ) → s < length r.past → get_or (costs_of r) s no_costs ≡ cost_of_delivery r.g r.l (outcomes_at (Some r) s)
unfolding costs_of
cost_delivered r s l = front_cost (cost_of_delivery r.g r.l) cost_of_end r.past (last_superstep r) s l

pub cost_ended : (r : Run) (s : ℕ) → length r.past ≤ s → s < length (supersteps_of r) → get_or (costs_of r) s no_costs ≡ cost_of_end (outcomes_at (Some r) s)
unfolding costs_of
cost_ended r s l k = back_cost (cost_of_delivery r.g r.l) cost_of_end r.past (last_superstep r) s l k

pub count_costs : (r : Run) → length (costs_of r) ≡ length (supersteps_of r)
unfolding costs_of
count_costs r =
    omega (
      arith,
      length-append (map (cost_of_delivery r.g r.l) (outcomes_of r.past)) (map cost_of_end (outcomes_of (last_superstep r))),
      length-append r.past (last_superstep r),
      length-map (outcomes_of r.past) (cost_of_delivery r.g r.l),
      length-map (outcomes_of (last_superstep r)) cost_of_end,
      length-map r.past (λ (x : Superstep). x.outcomes),
      length-map (last_superstep r) (λ (x : Superstep). x.outcomes),
    )

-- the row of an update, where the superstep ended by delivery, and where it did not

pub row_delivered : (old : Option Run) (new : Run) (s : ℕ) (ts ds : List ℕ) → s < length new.past
    → row_again old new s ts ds ≡ (let w = work_of ts (outcomes_at (Some new) s) in let h = h_relation (travelling old new s ts ds (outcomes_at (Some new) s)) in record { work = w; h = h; cost = w + h * new.g + cond (is_synchronised old new s ts ds) new.l 0 })
unfolding row_again
row_delivered old new s ts ds l =
    let w = work_of ts (outcomes_at (Some new) s) in
    let h = h_relation (travelling old new s ts ds (outcomes_at (Some new) s)) in
    ap (λ b. cond b (record { work = w; h = h; cost = w + h * new.g + cond (is_synchronised old new s ts ds) new.l 0 }) (record { work = w; h = 0; cost = w })) (lt_holds s (length new.past) l)

pub row_ended : (old : Option Run) (new : Run) (s : ℕ) (ts ds : List ℕ) → length new.past ≤ s
    → row_again old new s ts ds ≡ record { work = work_of ts (outcomes_at (Some new) s); h = 0; cost = work_of ts (outcomes_at (Some new) s) }
unfolding row_again
row_ended old new s ts ds l =
    let w = work_of ts (outcomes_at (Some new) s) in
    let h = h_relation (travelling old new s ts ds (outcomes_at (Some new) s)) in
    ap (λ b. cond b (record { work = w; h = h; cost = w + h * new.g + cond (is_synchronised old new s ts ds) new.l 0 }) (record { work = w; h = 0; cost = w })) (lt_fails s (length new.past) l)

-- numbers of a range

pub all_cons : {X : Type 0} (P : X → Type 0) (x : X) (xs : List X) → P x → All P xs → All P (x ∷ xs)
all_cons P x xs h t zero d l = h
all_cons P x xs h t (suc k) d l = t k d (omega arith)

pub all_range : (Q : ℕ → Type 0) (a n : ℕ) → ((k : ℕ) → a ≤ k → k < a + n → Q k) → All Q (range_with_len a n)
all_range Q a zero h = λ k d l. absurd (omega arith)
all_range Q a (suc n) h = all_cons Q a (range_with_len (a + 1) n) (h a (omega arith) (omega arith)) (all_range Q (a + 1) n (λ k low high. h k (omega arith) (omega arith)))

pub filter_all : (test : ℕ → Bool) (a n : ℕ) → ((k : ℕ) → a ≤ k → k < a + n → test k ≡ true) → filter test (range_with_len a n) ≡ range_with_len a n
filter_all test a zero h = refl
filter_all test a (suc n) h =
    let first = h a (omega arith) (omega arith) in
    let rest = filter_all test (a + 1) n (λ k low high. h k (omega arith) (omega arith)) in
    (λ i. cond (first i) (a ∷ rest i) (rest i))
