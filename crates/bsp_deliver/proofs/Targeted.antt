-- The largest sums after all transfers are the h-relation, of all requests or of those to some targets.
use Rattle.std.proofs.Common.{◌≡◌, ℕ, ◌+◌, ◌≤◌, ◌==◌, ◌&&◌, Bool, true, false, cond, not, List, [], ◌∷◌, ◌++◌, map, take, filter, length, max, fold, sum_by, refl, sym, ◌∙◌, ap, arith}
use Rattle.std.proofs.lemmas.List.{map-append}
use Rattle.std.proofs.lemmas.List.Elements.{filter-append}
use Rattle.std.proofs.lemmas.List.Sums.{sum_by-cons, sum_by-append}
use Rattle.bsp_model.specs.Limits.{most_processes}
use Rattle.bsp_model.specs.declared.request.Put.{Put}
use Rattle.bsp_model.specs.declared.request.Get.{Get}
use Rattle.bsp_model.specs.declared.request.Send.{Send}
use Rattle.bsp_step.specs.OutcomeParts.{OutcomeParts}
use Rattle.bsp_deliver.specs.declared.cost.Sums.{Sums}
use Rattle.bsp_deliver.specs.Requests.{each_below, requests_from, all_puts, all_gets, all_sends}
use Rattle.bsp_deliver.specs.Cost.{Transfer, put_transfer, get_transfer, send_transfer, transfers, count_sent, count_received, transfers_to, largest, h_relation, h_relation_to}
use Rattle.bsp_deliver.specs.Inside.Sums.{counted, counted_to, no_words, transfers_of, transfers_from}
use Rattle.bsp_deliver.proofs.Senders.{map_twice}
use Rattle.bsp_deliver.proofs.Writes.{each_below-same}
use Rattle.bsp_deliver.proofs.Counts.{sent_below, received_below}

-- the sums process by process are the sums over all puts, all gets and all messages
abbrev total : (Transfer → Bool) → List Transfer → ℕ
total P ts = sum_by (λ (t : Transfer). t.count) (filter P ts)

total-append : (P : Transfer → Bool) (xs ys : List Transfer) → total P (xs ++ ys) ≡ total P xs + total P ys
total-append P xs ys = ap (sum_by (λ (t : Transfer). t.count)) (filter-append P xs ys) ∙ sum_by-append (λ (t : Transfer). t.count) (filter P xs) (filter P ys)

total-three : (P : Transfer → Bool) (xs ys zs : List Transfer) → total P (xs ++ ys ++ zs) ≡ total P xs + total P ys + total P zs
total-three P xs ys zs = omega (arith, total-append P (xs ++ ys) zs, total-append P xs ys)

-- one sender's requests and the others'
total_by_sender : {R : Type 0} (P : Transfer → Bool) (of : OutcomeParts → List R) (f : ℕ → R → Transfer) (n : ℕ) (o : OutcomeParts) (os : List OutcomeParts)
    → total P (map (λ (s : ℕ × R). f s.0 s.1) (requests_from of n (o ∷ os))) ≡ total P (map (f n) (of o)) + total P (map (λ (s : ℕ × R). f s.0 s.1) (requests_from of (n + 1) os))
total_by_sender {R = R} P of f n o os =
    let F : (ℕ × R) → Transfer = λ s. f s.0 s.1 in
    ap (total P) (map-append F (map (λ r. (n, r)) (of o)) (requests_from of (n + 1) os) ∙ ap (λ xs. xs ++ map F (requests_from of (n + 1) os)) (sym (map_twice F (λ r. (n, r)) (of o))))
    ∙ total-append P (map (f n) (of o)) (map F (requests_from of (n + 1) os))

total_from : (P : Transfer → Bool) (n : ℕ) (os : List OutcomeParts)
    → total P (transfers_from n os) ≡ total P (map (λ (s : ℕ × Put). put_transfer s.0 s.1) (requests_from (λ o. o.puts) n os)) + total P (map (λ (s : ℕ × Get). get_transfer s.0 s.1) (requests_from (λ o. o.gets) n os)) + total P (map (λ (s : ℕ × Send). send_transfer s.0 s.1) (requests_from (λ o. o.sends) n os))
total_from P n [] = refl
total_from P n (o ∷ os) =
    omega (
      arith,
      total-append P (transfers_of n o) (transfers_from (n + 1) os),
      total-three P (map (put_transfer n) o.puts) (map (get_transfer n) o.gets) (map (send_transfer n) o.sends),
      total_from P (n + 1) os,
      total_by_sender P (λ x. x.puts) put_transfer n o os,
      total_by_sender P (λ x. x.gets) get_transfer n o os,
      total_by_sender P (λ x. x.sends) send_transfer n o os,
    )

total_all : (P : Transfer → Bool) (os : List OutcomeParts) → total P (transfers_from 0 os) ≡ total P (transfers os)
unfolding transfers all_puts all_gets all_sends
total_all P os =
    total_from P 0 os
    ∙ sym (total-three P (map (λ (s : ℕ × Put). put_transfer s.0 s.1) (requests_from (λ o. o.puts) 0 os)) (map (λ (s : ℕ × Get). get_transfer s.0 s.1) (requests_from (λ o. o.gets) 0 os)) (map (λ (s : ℕ × Send). send_transfer s.0 s.1) (requests_from (λ o. o.sends) 0 os)))

-- a test behind another
total-filter : (W P : Transfer → Bool) (ts : List Transfer) → total P (filter W ts) ≡ total (λ t. W t && P t) ts
total-filter W P [] = refl
total-filter W P (t ∷ ts) =
    let sum : List Transfer → ℕ = sum_by (λ (x : Transfer). x.count) in
    let both = filter (λ x. W x && P x) ts in
    elim (W t) as (λ b. total P (cond b (t ∷ filter W ts) (filter W ts)) ≡ sum (cond (b && P t) (t ∷ both) both)) [
      | true ↦
          elim (P t) as (λ b. sum (cond b (t ∷ filter P (filter W ts)) (filter P (filter W ts))) ≡ sum (cond b (t ∷ both) both)) [
            | true ↦
                sum_by-cons (λ (x : Transfer). x.count) t (filter P (filter W ts)) ∙ ap (λ n. t.count + n) (total-filter W P ts) ∙ sym (sum_by-cons (λ (x : Transfer). x.count) t both)
            | false ↦ total-filter W P ts
          ]
      | false ↦ total-filter W P ts
    ]

total_to : (w : ℕ → Bool) (P : Transfer → Bool) (os : List OutcomeParts) → total P (filter (λ t. w t.target) (transfers_from 0 os)) ≡ total P (transfers_to w os)
total_to w P os =
    total-filter (λ t. w t.target) P (transfers_from 0 os) ∙ total_all (λ t. w t.target && P t) os ∙ sym (total-filter (λ t. w t.target) P (transfers os))

-- the transfers that are counted are those to the targets
counted_to_all : (w : ℕ → Bool) (s : Sums) (ts : List Transfer) → fold (counted_to w) s ts ≡ fold counted s (filter (λ t. w t.target) ts)
counted_to_all w s [] = refl
counted_to_all w s (t ∷ ts) =
    elim (w t.target) as (λ b. fold (counted_to w) (cond b (counted s t) s) ts ≡ fold counted s (cond b (t ∷ filter (λ t. w t.target) ts) (filter (λ t. w t.target) ts))) [
      | true ↦ counted_to_all w (counted s t) ts
      | false ↦ counted_to_all w s ts
    ]

-- the largest sums are the h-relation
pub most-is : (w : ℕ → Bool) (os : List OutcomeParts) (s : Sums) → length os ≤ most_processes → s ≡ fold (counted_to w) no_words (transfers_from 0 os)
    → max (largest (take (length os) s.sent)) (largest (take (length os) s.received)) ≡ h_relation_to w os
unfolding h_relation_to
most-is w os s few e =
    let n = length os in
    let ts = filter (λ (t : Transfer). w t.target) (transfers_from 0 os) in
    let sent = each_below-same n (count_sent ts) (count_sent (transfers_to w os)) (λ p l. total_to w (λ t. (t.source == p) && not (t.target == p)) os) in
    let received = each_below-same n (count_received ts) (count_received (transfers_to w os)) (λ p l. total_to w (λ t. (t.target == p) && not (t.source == p)) os) in
    ap (λ (x : Sums). max (largest (take n x.sent)) (largest (take n x.received))) (e ∙ counted_to_all w no_words (transfers_from 0 os))
    ∙ (λ i. max (largest (sent_below ts n few i)) (largest (received_below ts n few i)))
    ∙ (λ i. max (largest (sent i)) (largest (received i)))

filter-every : (ts : List Transfer) → filter (λ (t : Transfer). true) ts ≡ ts
filter-every [] = refl
filter-every (t ∷ ts) = ap (λ xs. t ∷ xs) (filter-every ts)

-- where all processes are targets, nothing is left out
pub h_relation_to-all : (os : List OutcomeParts) → h_relation_to (λ _. true) os ≡ h_relation os
unfolding h_relation_to h_relation
h_relation_to-all os =
    ap (λ ts. max (largest (each_below (length os) (count_sent ts))) (largest (each_below (length os) (count_received ts)))) (filter-every (transfers os))
