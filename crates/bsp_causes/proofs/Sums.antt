-- What is counted of words on their way: the largest sums are the h-relation, and no sum overflows.
use Rattle.std.proofs.Common.{◌≡◌, ℕ, suc, ◌+◌, ◌*◌, ◌<◌, ◌≤◌, ◌==◌, ◌&&◌, Bool, true, false, cond, not, List, [], ◌∷◌, ◌++◌, map, take, filter, length, max, fold, sum_by, replicate, All, refl, sym, ◌∙◌, ap, arith, get_or, subst, inl, inr, append_assoc, append-nil}
use Rattle.std.proofs.lemmas.Bool.{eq-eqb, ne_eqb, cases_eq, cases_lt}
use Rattle.std.proofs.lemmas.List.{length-set, set_past, get_or-set_same, get_or-set_other, get_or-replicate, length-replicate, get_or-take, length-take-le, take_more, map-append, length-map, get_or-map}
use Rattle.std.proofs.lemmas.List.Elements.{All-set, All-map, All-tail, All-head, All-replicate, filter-append}
use Rattle.std.proofs.lemmas.List.Sums.{sum_by-cons, sum_by-append}
use Rattle.std.proofs.lemmas.List.FromFn.{fill_by_all}
use Rattle.std.proofs.lemmas.Grind.{common_steps, fold-append}
use Rattle.bsp_model.specs.Limits.{most_h, most_memory_words, most_processes, most_request_words}
use Rattle.bsp_model.specs.declared.request.Put.{Put}
use Rattle.bsp_model.specs.declared.request.Get.{Get}
use Rattle.bsp_model.specs.declared.request.Send.{Send}
use Rattle.bsp_step.specs.OutcomeParts.{OutcomeParts, IsShortSend, outcome_of}
use Rattle.bsp_causes.specs.declared.moved.Moved.{Moved}
use Rattle.bsp_deliver.specs.Requests.{each_below, requests_from, all_puts, all_gets, all_sends}
use Rattle.bsp_deliver.specs.Cost.{Transfer, put_transfer, get_transfer, send_transfer, transfers, count_sent, count_received, largest, h_relation}
use Rattle.bsp_deliver.specs.Inside.Sums.{raised, transfers_of, transfers_from, IsSmall}
use Rattle.bsp_causes.specs.Inside.Moved.{counted, no_words, HasRoom}
use Rattle.bsp_deliver.proofs.Senders.{map_twice}
use Rattle.bsp_deliver.proofs.Writes.{each_below-same}

-- less room is room
pub less_room : (s : Moved) (m n : ℕ) → m ≤ n → HasRoom s n → HasRoom s m
less_room s m n l h = record {
  sent = λ k d i. let e : get_or s.sent k d + most_request_words * n ≤ most_h = h.sent k d i in omega arith;
  received = λ k d i. let e : get_or s.received k d + most_request_words * n ≤ most_h = h.received k d i in omega arith;
}

raised_room : (xs : List ℕ) (p k m : ℕ) → k ≤ most_request_words → All (λ n. n + most_request_words * suc m ≤ most_h) xs → All (λ n. n + most_request_words * m ≤ most_h) (raised xs p k)
raised_room xs p k m l h =
    let P : ℕ → Type 0 = λ n. n + most_request_words * m ≤ most_h in
    let old : All P xs = λ i d j. let e : get_or xs i d + most_request_words * suc m ≤ most_h = h i d j in omega arith in
    elim (cases_lt p (length xs)) [
      | inl w ↦ All-set P xs p (get_or xs p 0 + k) (let e : get_or xs p 0 + most_request_words * suc m ≤ most_h = h p 0 w in omega arith) old
      | inr w ↦ subst (All P) (sym (set_past xs p (get_or xs p 0 + k) w)) old
    ]

counted_room : (s : Moved) (t : Transfer) (m : ℕ) → IsSmall t → HasRoom s (suc m) → HasRoom (counted s t) m
counted_room s t m small h =
    elim (t.source == t.target) as (λ b. HasRoom (cond b s (record { sent = raised s.sent t.source t.count; received = raised s.received t.target t.count })) m) [
      | true ↦ less_room s m (suc m) (omega arith) h
      | false ↦ record { sent = raised_room s.sent t.source t.count m small.few_words h.sent; received = raised_room s.received t.target t.count m small.few_words h.received }
    ]

pub room_after : (s : Moved) (ts : List Transfer) (n : ℕ) → All IsSmall ts → HasRoom s (length ts + n) → HasRoom (fold counted s ts) n
room_after s [] n small h = less_room s n (0 + n) (omega arith) h
room_after s (t ∷ ts) n small h =
    room_after (counted s t) ts n (All-tail IsSmall t ts small) (counted_room s t (length ts + n) (All-head IsSmall t ts small) (less_room s (suc (length ts + n)) (suc (length ts) + n) (omega arith) h))

pub no_words_room : (n : ℕ) → most_request_words * n ≤ most_h → HasRoom no_words n
no_words_room n h =
    let P : ℕ → Type 0 = λ k. k + most_request_words * n ≤ most_h in
    let zeros : All P (replicate most_processes 0) = All-replicate P most_processes 0 (omega arith) in
    record { sent = zeros; received = zeros }

-- a sum after one transfer more
raised_at : (xs : List ℕ) (source target p n : ℕ) → p < length xs → (source ≡ target → ⊥) → get_or (raised xs source n) p 0 ≡ get_or xs p 0 + cond ((source == p) && not (target == p)) n 0
raised_at xs source target p n l ne =
    elim (cases_eq source p) [
      | inl e ↦
          ap (λ s. get_or (raised xs s n) p 0) e ∙ get_or-set_same xs p (get_or xs p 0 + n) 0 l
          ∙ ap (λ b. get_or xs p 0 + cond b n 0) (sym ((λ i. eq-eqb source p e i && not (ne_eqb target p (λ k. ne (e ∙ sym k)) i))))
      | inr e ↦
          get_or-set_other xs source p (get_or xs source 0 + n) 0 (λ k. e (sym k)) ∙ omega arith
          ∙ ap (λ b. get_or xs p 0 + cond (b && not (target == p)) n 0) (sym (ne_eqb source p e))
    ]

apart : (source target p n : ℕ) → source ≡ target → cond ((source == p) && not (target == p)) n 0 ≡ 0
apart source target p n e =
    ap (λ t. cond ((source == p) && not (t == p)) n 0) (sym e) ∙ elim (source == p) as (λ b. cond (b && not b) n 0 ≡ 0) [ true ↦ refl | false ↦ refl ]

counted_same : (s : Moved) (t : Transfer) → t.source ≡ t.target → counted s t ≡ s
counted_same s t e = ap (λ b. cond b s (record { sent = raised s.sent t.source t.count; received = raised s.received t.target t.count })) (eq-eqb t.source t.target e)

counted_other : (s : Moved) (t : Transfer) → (t.source ≡ t.target → ⊥) → counted s t ≡ record { sent = raised s.sent t.source t.count; received = raised s.received t.target t.count }
counted_other s t ne = ap (λ b. cond b s (record { sent = raised s.sent t.source t.count; received = raised s.received t.target t.count })) (ne_eqb t.source t.target ne)

sent_one : (s : Moved) (t : Transfer) (p : ℕ) → p < length s.sent → get_or (counted s t).sent p 0 ≡ get_or s.sent p 0 + cond ((t.source == p) && not (t.target == p)) t.count 0
sent_one s t p l =
    elim (cases_eq t.source t.target) [
      | inl e ↦ ap (λ (x : Moved). get_or x.sent p 0) (counted_same s t e) ∙ omega (arith, apart t.source t.target p t.count e)
      | inr e ↦ ap (λ (x : Moved). get_or x.sent p 0) (counted_other s t e) ∙ raised_at s.sent t.source t.target p t.count l e
    ]

received_one : (s : Moved) (t : Transfer) (p : ℕ) → p < length s.received → get_or (counted s t).received p 0 ≡ get_or s.received p 0 + cond ((t.target == p) && not (t.source == p)) t.count 0
received_one s t p l =
    elim (cases_eq t.source t.target) [
      | inl e ↦ ap (λ (x : Moved). get_or x.received p 0) (counted_same s t e) ∙ omega (arith, apart t.target t.source p t.count (sym e))
      | inr e ↦ ap (λ (x : Moved). get_or x.received p 0) (counted_other s t e) ∙ raised_at s.received t.target t.source p t.count l (λ k. e (sym k))
    ]

length_sent : (s : Moved) (t : Transfer) → length (counted s t).sent ≡ length s.sent
length_sent s t =
    elim (t.source == t.target) as (λ b. length (cond b s (record { sent = raised s.sent t.source t.count; received = raised s.received t.target t.count })).sent ≡ length s.sent) [ true ↦ refl | false ↦ length-set s.sent t.source (get_or s.sent t.source 0 + t.count) ]

length_received : (s : Moved) (t : Transfer) → length (counted s t).received ≡ length s.received
length_received s t =
    elim (t.source == t.target) as (λ b. length (cond b s (record { sent = raised s.sent t.source t.count; received = raised s.received t.target t.count })).received ≡ length s.received) [ true ↦ refl | false ↦ length-set s.received t.target (get_or s.received t.target 0 + t.count) ]

pub sum_more : (P : Transfer → Bool) (t : Transfer) (ts : List Transfer) → sum_by (λ (x : Transfer). x.count) (filter P (t ∷ ts)) ≡ cond (P t) t.count 0 + sum_by (λ (x : Transfer). x.count) (filter P ts)
sum_more P t ts =
    elim (P t) as (λ b. sum_by (λ (x : Transfer). x.count) (cond b (t ∷ filter P ts) (filter P ts)) ≡ cond b t.count 0 + sum_by (λ (x : Transfer). x.count) (filter P ts)) [
      | true ↦ sum_by-cons (λ (x : Transfer). x.count) t (filter P ts)
      | false ↦ omega arith
    ]

-- the sums after transfers are the sums of the transfers
sent_all : (s : Moved) (ts : List Transfer) (p : ℕ) → p < length s.sent → get_or (fold counted s ts).sent p 0 ≡ get_or s.sent p 0 + count_sent ts p
sent_all s [] p l = omega arith
sent_all s (t ∷ ts) p l =
    sent_all (counted s t) ts p (omega (arith, length_sent s t))
    ∙ omega (arith, sent_one s t p l, sum_more (λ (x : Transfer). (x.source == p) && not (x.target == p)) t ts)

received_all : (s : Moved) (ts : List Transfer) (p : ℕ) → p < length s.received → get_or (fold counted s ts).received p 0 ≡ get_or s.received p 0 + count_received ts p
received_all s [] p l = omega arith
received_all s (t ∷ ts) p l =
    received_all (counted s t) ts p (omega (arith, length_received s t))
    ∙ omega (arith, received_one s t p l, sum_more (λ (x : Transfer). (x.target == p) && not (x.source == p)) t ts)

length_sent_all : (s : Moved) (ts : List Transfer) → length (fold counted s ts).sent ≡ length s.sent
length_sent_all s [] = refl
length_sent_all s (t ∷ ts) = length_sent_all (counted s t) ts ∙ length_sent s t

length_received_all : (s : Moved) (ts : List Transfer) → length (fold counted s ts).received ≡ length s.received
length_received_all s [] = refl
length_received_all s (t ∷ ts) = length_received_all (counted s t) ts ∙ length_received s t

pub sent_below : (ts : List Transfer) (n : ℕ) → n ≤ most_processes → take n (fold counted no_words ts).sent ≡ each_below n (count_sent ts)
sent_below ts n h =
    let xs = (fold counted no_words ts).sent in
    let long : length xs ≡ most_processes = length_sent_all no_words ts in
    fill_by_all (count_sent ts) (take n xs) n 0 (length-take-le n xs (omega arith))
    (λ k l. get_or-take n xs k 0 l ∙ sent_all no_words ts k (omega (arith, length-replicate {A = ℕ} most_processes 0)) ∙ omega (arith, get_or-replicate {A = ℕ} most_processes k 0 0 (omega arith)))

pub received_below : (ts : List Transfer) (n : ℕ) → n ≤ most_processes → take n (fold counted no_words ts).received ≡ each_below n (count_received ts)
received_below ts n h =
    let xs = (fold counted no_words ts).received in
    let long : length xs ≡ most_processes = length_received_all no_words ts in
    fill_by_all (count_received ts) (take n xs) n 0 (length-take-le n xs (omega arith))
    (λ k l. get_or-take n xs k 0 l ∙ received_all no_words ts k (omega (arith, length-replicate {A = ℕ} most_processes 0)) ∙ omega (arith, get_or-replicate {A = ℕ} most_processes k 0 0 (omega arith)))

-- one process more
transfers_from-append : (n m : ℕ) (os : List OutcomeParts) (o : OutcomeParts) → m ≡ n + length os → transfers_from n (os ++ o ∷ []) ≡ transfers_from n os ++ transfers_of m o
transfers_from-append n m [] o e = let k : m ≡ n = omega arith in rw k (append-nil _)
transfers_from-append n m (x ∷ os) o e =
    ap (λ ys. transfers_of n x ++ ys) (transfers_from-append (n + 1) m os o (omega arith)) ∙ sym (append_assoc (transfers_of n x) (transfers_from (n + 1) os) (transfers_of m o))

pub transfers_more : (s : Moved) (os : List OutcomeParts) (p : ℕ) → p < length os
    → fold counted (fold counted s (transfers_from 0 (take p os))) (transfers_of p (outcome_of os p)) ≡ fold counted s (transfers_from 0 (take (p + 1) os))
transfers_more s os p l =
    let long : p ≡ 0 + length (take p os) = grind (arith, common_steps) in
    sym (fold-append counted s (transfers_from 0 (take p os)) (transfers_of p (outcome_of os p)))
    ∙ ap (fold counted s) (sym (transfers_from-append 0 p (take p os) (outcome_of os p) long) ∙ ap (transfers_from 0) (sym (take_more os p _ l)))

pub room_next : {R : Type 0} (f : R → Transfer) (xs : List R) (s : Moved) (m n : ℕ) → All (λ x. IsSmall (f x)) xs → length xs + n ≤ m → HasRoom s m → HasRoom (fold counted s (map f xs)) n
room_next f xs s m n small l h =
    room_after s (map f xs) n (All-map IsSmall f xs small) (less_room s (length (map f xs) + n) m (omega (arith, length-map xs f)) h)

pub room_at : {R : Type 0} (f : R → Transfer) (xs : List R) (s after : Moved) (m n : ℕ) → after ≡ fold counted s (map f xs) → All (λ x. IsSmall (f x)) xs → length xs + n ≤ m → HasRoom s m → HasRoom after n
room_at f xs s after m n e small l h = subst (λ (x : Moved). HasRoom x n) (sym e) (room_next f xs s m n small l h)

-- the sums process by process are the sums over all puts, all gets and all messages
abbrev pub total : (Transfer → Bool) → List Transfer → ℕ
total P ts = sum_by (λ (t : Transfer). t.count) (filter P ts)

pub total-append : (P : Transfer → Bool) (xs ys : List Transfer) → total P (xs ++ ys) ≡ total P xs + total P ys
total-append P xs ys = ap (sum_by (λ (t : Transfer). t.count)) (filter-append P xs ys) ∙ sum_by-append (λ (t : Transfer). t.count) (filter P xs) (filter P ys)

total-three : (P : Transfer → Bool) (xs ys zs : List Transfer) → total P (xs ++ ys ++ zs) ≡ total P xs + total P ys + total P zs
total-three P xs ys zs = omega (arith, total-append P (xs ++ ys) zs, total-append P xs ys)

-- one sender's requests and the others'
pub total_by_sender : {R : Type 0} (P : Transfer → Bool) (of : OutcomeParts → List R) (f : ℕ → R → Transfer) (n : ℕ) (o : OutcomeParts) (os : List OutcomeParts)
    → total P (map (λ (s : ℕ × R). f s.0 s.1) (requests_from of n (o ∷ os))) ≡ total P (map (f n) (of o)) + total P (map (λ (s : ℕ × R). f s.0 s.1) (requests_from of (n + 1) os))
total_by_sender {R = R} P of f n o os =
    let F : (ℕ × R) → Transfer = λ s. f s.0 s.1 in
    ap (total P) (map-append F (map (λ r. (n, r)) (of o)) (requests_from of (n + 1) os) ∙ ap (λ xs. xs ++ map F (requests_from of (n + 1) os)) (sym (map_twice F (λ r. (n, r)) (of o))))
    ∙ total-append P (map (f n) (of o)) (map F (requests_from of (n + 1) os))

total_from : (P : Transfer → Bool) (n : ℕ) (os : List OutcomeParts)
    → total P (transfers_from n os) ≡ total P (map (λ (s : ℕ × Put). put_transfer s.0 s.1) (requests_from (λ o. o.puts) n os)) + total P (map (λ (s : ℕ × Get). get_transfer s.0 s.1) (requests_from (λ o. o.gets) n os)) + total P (map (λ (s : ℕ × Send). send_transfer s.0 s.1) (requests_from (λ o. o.sends) n os))
total_from P n [] = refl
total_from P n (o ∷ os) =
    omega (
      arith,
      total-append P (transfers_of n o) (transfers_from (n + 1) os),
      total-three P (map (put_transfer n) o.puts) (map (get_transfer n) o.gets) (map (send_transfer n) o.sends),
      total_from P (n + 1) os,
      total_by_sender P (λ x. x.puts) put_transfer n o os,
      total_by_sender P (λ x. x.gets) get_transfer n o os,
      total_by_sender P (λ x. x.sends) send_transfer n o os,
    )

total_all : (P : Transfer → Bool) (os : List OutcomeParts) → total P (transfers_from 0 os) ≡ total P (transfers os)
unfolding transfers all_puts all_gets all_sends
total_all P os =
    total_from P 0 os
    ∙ sym (total-three P (map (λ (s : ℕ × Put). put_transfer s.0 s.1) (requests_from (λ o. o.puts) 0 os)) (map (λ (s : ℕ × Get). get_transfer s.0 s.1) (requests_from (λ o. o.gets) 0 os)) (map (λ (s : ℕ × Send). send_transfer s.0 s.1) (requests_from (λ o. o.sends) 0 os)))

-- the largest sums are the h-relation
pub most-is : (os : List OutcomeParts) (s : Moved) → length os ≤ most_processes → s ≡ fold counted no_words (transfers_from 0 os)
    → max (largest (take (length os) s.sent)) (largest (take (length os) s.received)) ≡ h_relation os
unfolding h_relation
most-is os s few e =
    let n = length os in
    let ts = transfers_from 0 os in
    let sent = each_below-same n (count_sent ts) (count_sent (transfers os)) (λ p l. total_all (λ t. (t.source == p) && not (t.target == p)) os) in
    let received = each_below-same n (count_received ts) (count_received (transfers os)) (λ p l. total_all (λ t. (t.target == p) && not (t.source == p)) os) in
    ap (λ (x : Moved). max (largest (take n x.sent)) (largest (take n x.received))) e
    ∙ (λ i. max (largest (sent_below ts n few i)) (largest (received_below ts n few i)))
    ∙ (λ i. max (largest (sent i)) (largest (received i)))
