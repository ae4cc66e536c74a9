-- The numbers of all processes, in order.
use Rattle.std.proofs.Common.{◌≡◌, ◌<◌, ℕ, List, All, arith, length, subst, sym}
use Rattle.std.specs.List.{range_with_len}
use Rattle.std.proofs.lemmas.List.FromFn.{get_or-range_with_len, length-range_with_len}
use Rattle.bsp_model.specs.Replaced.{IsAscending}
use Rattle.bsp_step.specs.OutcomeParts.{OutcomeParts}
use Rattle.bsp_deliver.specs.Condition.{AreDeliverable, CanDeliver}
use Rattle.bsp_deliver.specs.Inside.Gathering.{ArePlaces}

pub all_known : (n : ℕ) → All (λ d. d < n) (range_with_len 0 n)
all_known n k d within =
    let here : k < n = omega (arith, within, length-range_with_len 0 n) in
    omega (arith, get_or-range_with_len 0 n k d here, here)

pub all_ascending : (n : ℕ) → IsAscending (range_with_len 0 n)
all_ascending n j k below within =
    let here : k < n = omega (arith, within, length-range_with_len 0 n) in
    omega (arith, get_or-range_with_len 0 n j 0 (omega arith), get_or-range_with_len 0 n k 0 here, below)

-- deliveries can be made to all of them
pub can_deliver_all : (os : List OutcomeParts) (ds : List ℕ) → AreDeliverable os → ds ≡ range_with_len 0 (length os) → CanDeliver os ds
can_deliver_all os ds deliverable all =
    let n = length os in
    record { deliverable = deliverable; known = subst (All (λ d. d < n)) (sym all) (all_known n); ascending = subst IsAscending (sym all) (all_ascending n) }

-- each process stands at the place of its number
pub at_own_place : (n : ℕ) → ArePlaces n (range_with_len 0 n) (range_with_len 0 n)
at_own_place n = record {
  count = length-range_with_len 0 n;
  each = λ d k known within.
      let here : k < n = omega (arith, within, length-range_with_len 0 n) in
      let at_d = get_or-range_with_len 0 n d 0 known in
      let at_k = get_or-range_with_len 0 n k 0 here in
      (λ e. omega (arith, at_d, at_k, e), λ e. omega (arith, at_d, at_k, e));
}
