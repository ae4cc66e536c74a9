-- Turns that charge and move alike make a superstep of the same cost.
use Rattle.std.proofs.Common.{◌≡◌, ◌<◌, ◌+◌, ℕ, suc, List, [], ◌∷◌, ◌++◌, map, length, arith, refl, sym, ap, ◌∙◌}
use Rattle.std.specs.Prelude.{max}
use Rattle.std.proofs.lemmas.List.{map-append}
use Rattle.bsp_step.specs.OutcomeParts.{OutcomeParts, outcome_of}
use Rattle.bsp_deliver.specs.Requests.{each_below, requests_from, all_puts, all_gets, all_sends}
use Rattle.bsp_deliver.specs.Cost.{Transfer, transfers, put_transfer, get_transfer, send_transfer, count_sent, count_received, largest, h_relation}
use Rattle.bsp_run.specs.Result.{largest_work}
use Rattle.bsp_deliver.proofs.Senders.{map_twice}
use Rattle.bsp_incr.specs.Inside.Alike.{AllCostAlike, CostsAlike}

-- What holds of no turns, and of one turn more of each side where these two are alike, holds of all that are alike one by one.
pub alike_lists : (AreAlike : OutcomeParts → OutcomeParts → Type 0) (P : List OutcomeParts → List OutcomeParts → Type 0) → P [] [] → ((o u : OutcomeParts) (os us : List OutcomeParts) → AreAlike o u → P os us → P (o ∷ os) (u ∷ us))
    → (os us : List OutcomeParts) → length os ≡ length us → ((p : ℕ) → p < length us → AreAlike (outcome_of os p) (outcome_of us p)) → P os us
alike_lists AreAlike P none more [] [] count each = none
alike_lists AreAlike P none more [] (u ∷ us) count each = absurd (omega arith)
alike_lists AreAlike P none more (o ∷ os) [] count each = absurd (omega arith)
alike_lists AreAlike P none more (o ∷ os) (u ∷ us) count each =
    more o u os us (each 0 (omega arith)) (alike_lists AreAlike P none more os us (omega arith) (λ p l. each (suc p) (omega arith)))

-- outcomes of which some part is equal, process by process
pub same_part : {X : Type 0} (part : OutcomeParts → X) (os us : List OutcomeParts) → length os ≡ length us → ((p : ℕ) → p < length us → part (outcome_of os p) ≡ part (outcome_of us p)) → map part os ≡ map part us
same_part part = alike_lists (λ o u. part o ≡ part u) (λ os us. map part os ≡ map part us) refl (λ o u os us first rest. λ i. first i ∷ rest i)

-- what the requests of the first process move, and then those of the others
moved_first : {R : Type 0} (of : OutcomeParts → List R) (transfer : ℕ → R → Transfer) (n : ℕ) (o : OutcomeParts) (os : List OutcomeParts)
    → map (λ x. transfer x.0 x.1) (requests_from of n (o ∷ os)) ≡ map (transfer n) (of o) ++ map (λ x. transfer x.0 x.1) (requests_from of (n + 1) os)
moved_first of transfer n o os =
    let move : (ℕ × _) → Transfer = λ x. transfer x.0 x.1 in
    map-append move (map (λ r. (n, r)) (of o)) (requests_from of (n + 1) os)
    ∙ ap (λ ts. ts ++ map move (requests_from of (n + 1) os)) (sym (map_twice move (λ r. (n, r)) (of o)))

-- requests that move alike, process by process
same_moves : {R : Type 0} (of : OutcomeParts → List R) (transfer : ℕ → R → Transfer) (n : ℕ) (os us : List OutcomeParts) → length os ≡ length us
    → ((p : ℕ) → p < length us → (sender : ℕ) → map (transfer sender) (of (outcome_of os p)) ≡ map (transfer sender) (of (outcome_of us p)))
    → map (λ x. transfer x.0 x.1) (requests_from of n os) ≡ map (λ x. transfer x.0 x.1) (requests_from of n us)
same_moves of transfer n os us count each =
    alike_lists (λ o u. (sender : ℕ) → map (transfer sender) (of o) ≡ map (transfer sender) (of u))
    (λ os us. (n : ℕ) → map (λ x. transfer x.0 x.1) (requests_from of n os) ≡ map (λ x. transfer x.0 x.1) (requests_from of n us)) (λ n. refl)
    (λ o u os us first rest n. moved_first of transfer n o os ∙ (λ i. first n i ++ rest (n + 1) i) ∙ sym (moved_first of transfer n u us)) os us count each n

same_transfers : (os us : List OutcomeParts) → AllCostAlike os us → transfers os ≡ transfers us
unfolding transfers all_puts all_gets all_sends
same_transfers os us h =
    let puts = same_moves (λ (o : OutcomeParts). o.puts) put_transfer 0 os us h.count (λ p l. (h.each p l).puts) in
    let gets = same_moves (λ (o : OutcomeParts). o.gets) get_transfer 0 os us h.count (λ p l. (h.each p l).gets) in
    let sends = same_moves (λ (o : OutcomeParts). o.sends) send_transfer 0 os us h.count (λ p l. (h.each p l).sends) in
    λ i. puts i ++ gets i ++ sends i

-- as much was computed and moved
pub same_work : (os us : List OutcomeParts) → AllCostAlike os us → largest_work os ≡ largest_work us
same_work os us h = ap largest (same_part (λ (o : OutcomeParts). o.work) os us h.count (λ p l. (h.each p l).work))

pub same_h : (os us : List OutcomeParts) → AllCostAlike os us → h_relation os ≡ h_relation us
unfolding h_relation
same_h os us h =
    let moves = same_transfers os us h in
    let count = h.count in
    λ i. max (largest (each_below (count i) (count_sent (moves i)))) (largest (each_below (count i) (count_received (moves i))))

pub costs_alike-same : (o u : OutcomeParts) → o ≡ u → CostsAlike o u
costs_alike-same o u e =
    record {
      work = ap (λ (x : OutcomeParts). x.work) e;
      puts = λ sender. ap (λ (x : OutcomeParts). map (put_transfer sender) x.puts) e;
      gets = λ sender. ap (λ (x : OutcomeParts). map (get_transfer sender) x.gets) e;
      sends = λ sender. ap (λ (x : OutcomeParts). map (send_transfer sender) x.sends) e;
    }
