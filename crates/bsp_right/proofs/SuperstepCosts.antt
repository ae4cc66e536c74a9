-- What a superstep costs whose outcomes are described process by process.
use Rattle.std.proofs.Common.{◌+◌, ◌++◌, ◌<◌, List, [], ap, arith, inl, inr, map, refl, suc, zero, ℕ, ◌∙◌, ◌≡◌, ◌≤◌}
use Rattle.std.proofs.lemmas.Bool.{cases_lt}
use Rattle.std.proofs.lemmas.List.FromFn.{length-map-range_with_len}
use Rattle.std.specs.Prelude.{max}
use Rattle.std.specs.List.{range_with_len}
use Rattle.bsp_step.specs.OutcomeParts.{OutcomeParts}
use Rattle.bsp_deliver.specs.Cost.{Transfer, count_received, count_sent, get_transfer, h_relation, largest, put_transfer, send_transfer, transfers}
use Rattle.bsp_deliver.specs.Requests.{all_gets, all_puts, all_sends, each_below, requests_from}
use Rattle.bsp_run.specs.Result.{largest_work}
use Rattle.bsp_right.proofs.Ranges.{map_range-agree}

pub largest-le : (v : ℕ) (f : ℕ → ℕ) (n a : ℕ) → ((p : ℕ) → a ≤ p → p < a + n → f p ≤ v) → largest (map f (range_with_len a n)) ≤ v
largest-le v f zero a h = omega arith
largest-le v f (suc n) a h = omega (arith, h a (omega arith) (omega arith), largest-le v f n (a + 1) (λ p l m. h p (omega arith) (omega arith)))

pub largest-ge : (s : ℕ) (f : ℕ → ℕ) (n a : ℕ) → a ≤ s → s < a + n → f s ≤ largest (map f (range_with_len a n))
largest-ge s f zero a l m = absurd (omega arith)
largest-ge s f (suc n) a l m =
    elim (cases_lt a s) [
      | inl less ↦ omega (arith, largest-ge s f n (a + 1) (omega arith) (omega arith))
      | inr more ↦ let e : f s ≡ f a = ap f (omega arith) in omega arith
    ]

-- where no process charges work, the superstep has none
pub largest_work-none : (n : ℕ) (out : ℕ → OutcomeParts) → ((p : ℕ) → p < n → (out p).work ≡ 0) → largest_work (each_below n out) ≡ 0
largest_work-none n out h =
    let works : map (λ (o : OutcomeParts). o.work) (each_below n out) ≡ map (λ p. 0) (range_with_len 0 n) = map_range-agree (λ (o : OutcomeParts). o.work) out (λ p. 0) n 0 (λ p l m. h p (omega arith)) in
    let least : largest (map (λ (p : ℕ). 0) (range_with_len 0 n)) ≤ 0 = largest-le 0 (λ p. 0) n 0 (λ p l m. omega arith) in
    ap largest works ∙ omega arith

-- where all charge the same, it is the work of the superstep
pub largest_work-same : (n work : ℕ) (out : ℕ → OutcomeParts) → 1 ≤ n → ((p : ℕ) → p < n → (out p).work ≡ work) → largest_work (each_below n out) ≡ work
largest_work-same n work out some h =
    let works : map (λ (o : OutcomeParts). o.work) (each_below n out) ≡ map (λ p. work) (range_with_len 0 n) = map_range-agree (λ (o : OutcomeParts). o.work) out (λ p. work) n 0 (λ p l m. h p (omega arith)) in
    let most : largest (map (λ (p : ℕ). work) (range_with_len 0 n)) ≤ work = largest-le work (λ p. work) n 0 (λ p l m. omega arith) in
    let least : work ≤ largest (map (λ (p : ℕ). work) (range_with_len 0 n)) = largest-ge 0 (λ p. work) n 0 (omega arith) (omega arith) in
    ap largest works ∙ omega arith

-- no process has such a request
pub requests-none : {R : Type 0} (of : OutcomeParts → List R) (n k : ℕ) (out : ℕ → OutcomeParts) → ((p : ℕ) → k ≤ p → p < k + n → of (out p) ≡ []) → requests_from of k (map out (range_with_len k n)) ≡ []
requests-none of zero k out h = refl
requests-none {R = R} of (suc n) k out h =
    ap (λ (ms : List R). map (λ (r : R). (k, r)) ms ++ requests_from of (k + 1) (map out (range_with_len (k + 1) n))) (h k (omega arith) (omega arith))
    ∙ requests-none of n (k + 1) out (λ p l m. h p (omega arith) (omega arith))

-- processes that ask for nothing move nothing
pub record AllSilent (n : ℕ) (out : ℕ → OutcomeParts) : Type 0 where
  pub puts : (p : ℕ) → p < n → (out p).puts ≡ []
  pub gets : (p : ℕ) → p < n → (out p).gets ≡ []
  pub sends : (p : ℕ) → p < n → (out p).sends ≡ []

unfoldable pub h_of : ℕ → List Transfer → ℕ
h_of n ts = max (largest (each_below n (count_sent ts))) (largest (each_below n (count_received ts)))

pub h_relation-none : (n : ℕ) (out : ℕ → OutcomeParts) → AllSilent n out → h_relation (each_below n out) ≡ 0
unfolding h_relation transfers all_puts all_gets all_sends h_of
h_relation-none n out h =
    let none : transfers (each_below n out) ≡ [] = λ i.
    map (λ p. put_transfer p.0 p.1) (requests-none (λ o. o.puts) n 0 out (λ p l m. h.puts p (omega arith)) i)
    ++ map (λ g. get_transfer g.0 g.1) (requests-none (λ o. o.gets) n 0 out (λ p l m. h.gets p (omega arith)) i)
    ++ map (λ m. send_transfer m.0 m.1) (requests-none (λ o. o.sends) n 0 out (λ p l m. h.sends p (omega arith)) i) in
    let sent : largest (each_below n (count_sent [])) ≤ 0 = largest-le 0 (count_sent []) n 0 (λ p l m. omega arith) in
    let received : largest (each_below n (count_received [])) ≤ 0 = largest-le 0 (count_received []) n 0 (λ p l m. omega arith) in
    (λ i. h_of (length-map-range_with_len out 0 n i) (none i)) ∙ omega arith
