-- What the sums hold after transfers, and that they do not overflow.
use Rattle.std.proofs.Common.{◌≡◌, ℕ, suc, ◌+◌, ◌*◌, ◌<◌, ◌≤◌, ◌==◌, ◌&&◌, Bool, true, false, cond, not, List, [], ◌∷◌, ◌++◌, map, take, filter, length, fold, sum_by, replicate, All, refl, sym, ◌∙◌, ap, arith, get_or, subst, inl, inr, append_assoc, append-nil}
use Rattle.std.proofs.lemmas.Bool.{eq-eqb, ne_eqb, cases_eq, cases_lt}
use Rattle.std.proofs.lemmas.List.{length-set, set_past, get_or-set_same, get_or-set_other, get_or-replicate, length-replicate, get_or-take, length-take-le, take_more, map-append, length-map, get_or-map}
use Rattle.std.proofs.lemmas.List.Elements.{All-set, All-map, All-tail, All-head, All-replicate}
use Rattle.std.proofs.lemmas.List.Sums.{sum_by-cons}
use Rattle.std.proofs.lemmas.List.FromFn.{fill_by_all}
use Rattle.std.proofs.lemmas.Grind.{common_steps, fold-append}
use Rattle.bsp_model.specs.Limits.{most_h, most_memory_words, most_processes, most_request_words}
use Rattle.bsp_model.specs.declared.request.Put.{Put}
use Rattle.bsp_model.specs.declared.request.Get.{Get}
use Rattle.bsp_step.specs.OutcomeParts.{OutcomeParts, IsShortSend, outcome_of}
use Rattle.bsp_deliver.specs.declared.cost.Sums.{Sums}
use Rattle.bsp_deliver.specs.Requests.{each_below}
use Rattle.bsp_deliver.specs.Condition.{sizes_of, AreRequestsInside, AreDeliverable}
use Rattle.bsp_deliver.specs.Cost.{Transfer, put_transfer, get_transfer, send_transfer, count_sent, count_received}
use Rattle.bsp_deliver.specs.Inside.Sums.{raised, counted, counted_to, no_words, transfers_of, transfers_from, HasRoom, IsSmall}
use Rattle.bsp_deliver.proofs.Senders.{at_item, length-sizes_of}

-- one transfer more is counted
pub counted_more : {R : Type 0} (w : ℕ → Bool) (f : R → Transfer) (s now : Sums) (rs : List R) (i : ℕ) (r : R) → i < length rs → r ≡ get_or rs i r → now ≡ fold (counted_to w) s (map f (take i rs))
    → counted_to w now (f r) ≡ fold (counted_to w) s (map f (take (i + 1) rs))
counted_more w f s now rs i r l e h =
    ap (λ (t : Sums). counted_to w t (f r)) h
    ∙ sym (fold-append (counted_to w) s (map f (take i rs)) (f r ∷ []))
    ∙ ap (fold (counted_to w) s) (sym (map-append f (take i rs) (r ∷ [])) ∙ ap (map f) (ap (λ x. take i rs ++ x ∷ []) e ∙ sym (take_more rs i r l)))

-- less room is room
pub less_room : (s : Sums) (m n : ℕ) → m ≤ n → HasRoom s n → HasRoom s m
less_room s m n l h = record {
  sent = λ k d i. let e : get_or s.sent k d + most_request_words * n ≤ most_h = h.sent k d i in omega arith;
  received = λ k d i. let e : get_or s.received k d + most_request_words * n ≤ most_h = h.received k d i in omega arith;
}

raised_room : (xs : List ℕ) (p k m : ℕ) → k ≤ most_request_words → All (λ n. n + most_request_words * suc m ≤ most_h) xs → All (λ n. n + most_request_words * m ≤ most_h) (raised xs p k)
raised_room xs p k m l h =
    let P : ℕ → Type 0 = λ n. n + most_request_words * m ≤ most_h in
    let old : All P xs = λ i d j. let e : get_or xs i d + most_request_words * suc m ≤ most_h = h i d j in omega arith in
    elim (cases_lt p (length xs)) [
      | inl w ↦ All-set P xs p (get_or xs p 0 + k) (let e : get_or xs p 0 + most_request_words * suc m ≤ most_h = h p 0 w in omega arith) old
      | inr w ↦ subst (All P) (sym (set_past xs p (get_or xs p 0 + k) w)) old
    ]

counted_room : (s : Sums) (t : Transfer) (m : ℕ) → IsSmall t → HasRoom s (suc m) → HasRoom (counted s t) m
counted_room s t m small h =
    elim (t.source == t.target) as (λ b. HasRoom (cond b s (record { sent = raised s.sent t.source t.count; received = raised s.received t.target t.count })) m) [
      | true ↦ less_room s m (suc m) (omega arith) h
      | false ↦ record { sent = raised_room s.sent t.source t.count m small.few_words h.sent; received = raised_room s.received t.target t.count m small.few_words h.received }
    ]

counted_to_room : (w : ℕ → Bool) (s : Sums) (t : Transfer) (m : ℕ) → IsSmall t → HasRoom s (suc m) → HasRoom (counted_to w s t) m
counted_to_room w s t m small h = elim (w t.target) as (λ b. HasRoom (cond b (counted s t) s) m) [ true ↦ counted_room s t m small h | false ↦ less_room s m (suc m) (omega arith) h ]

pub room_after : (w : ℕ → Bool) (s : Sums) (ts : List Transfer) (n : ℕ) → All IsSmall ts → HasRoom s (length ts + n) → HasRoom (fold (counted_to w) s ts) n
room_after w s [] n small h = less_room s n (0 + n) (omega arith) h
room_after w s (t ∷ ts) n small h =
    room_after w (counted_to w s t) ts n (All-tail IsSmall t ts small) (counted_to_room w s t (length ts + n) (All-head IsSmall t ts small) (less_room s (suc (length ts + n)) (suc (length ts) + n) (omega arith) h))

pub no_words_room : (n : ℕ) → most_request_words * n ≤ most_h → HasRoom no_words n
no_words_room n h =
    let P : ℕ → Type 0 = λ k. k + most_request_words * n ≤ most_h in
    let zeros : All P (replicate most_processes 0) = All-replicate P most_processes 0 (omega arith) in
    record { sent = zeros; received = zeros }

-- a sum after one transfer more
raised_at : (xs : List ℕ) (source target p n : ℕ) → p < length xs → (source ≡ target → ⊥) → get_or (raised xs source n) p 0 ≡ get_or xs p 0 + cond ((source == p) && not (target == p)) n 0
raised_at xs source target p n l ne =
    elim (cases_eq source p) [
      | inl e ↦
          ap (λ s. get_or (raised xs s n) p 0) e ∙ get_or-set_same xs p (get_or xs p 0 + n) 0 l
          ∙ ap (λ b. get_or xs p 0 + cond b n 0) (sym ((λ i. eq-eqb source p e i && not (ne_eqb target p (λ k. ne (e ∙ sym k)) i))))
      | inr e ↦
          get_or-set_other xs source p (get_or xs source 0 + n) 0 (λ k. e (sym k)) ∙ omega arith
          ∙ ap (λ b. get_or xs p 0 + cond (b && not (target == p)) n 0) (sym (ne_eqb source p e))
    ]

apart : (source target p n : ℕ) → source ≡ target → cond ((source == p) && not (target == p)) n 0 ≡ 0
apart source target p n e =
    ap (λ t. cond ((source == p) && not (t == p)) n 0) (sym e) ∙ elim (source == p) as (λ b. cond (b && not b) n 0 ≡ 0) [ true ↦ refl | false ↦ refl ]

counted_same : (s : Sums) (t : Transfer) → t.source ≡ t.target → counted s t ≡ s
counted_same s t e = ap (λ b. cond b s (record { sent = raised s.sent t.source t.count; received = raised s.received t.target t.count })) (eq-eqb t.source t.target e)

counted_other : (s : Sums) (t : Transfer) → (t.source ≡ t.target → ⊥) → counted s t ≡ record { sent = raised s.sent t.source t.count; received = raised s.received t.target t.count }
counted_other s t ne = ap (λ b. cond b s (record { sent = raised s.sent t.source t.count; received = raised s.received t.target t.count })) (ne_eqb t.source t.target ne)

sent_one : (s : Sums) (t : Transfer) (p : ℕ) → p < length s.sent → get_or (counted s t).sent p 0 ≡ get_or s.sent p 0 + cond ((t.source == p) && not (t.target == p)) t.count 0
sent_one s t p l =
    elim (cases_eq t.source t.target) [
      | inl e ↦ ap (λ (x : Sums). get_or x.sent p 0) (counted_same s t e) ∙ omega (arith, apart t.source t.target p t.count e)
      | inr e ↦ ap (λ (x : Sums). get_or x.sent p 0) (counted_other s t e) ∙ raised_at s.sent t.source t.target p t.count l e
    ]

received_one : (s : Sums) (t : Transfer) (p : ℕ) → p < length s.received → get_or (counted s t).received p 0 ≡ get_or s.received p 0 + cond ((t.target == p) && not (t.source == p)) t.count 0
received_one s t p l =
    elim (cases_eq t.source t.target) [
      | inl e ↦ ap (λ (x : Sums). get_or x.received p 0) (counted_same s t e) ∙ omega (arith, apart t.target t.source p t.count (sym e))
      | inr e ↦ ap (λ (x : Sums). get_or x.received p 0) (counted_other s t e) ∙ raised_at s.received t.target t.source p t.count l (λ k. e (sym k))
    ]

length_sent : (s : Sums) (t : Transfer) → length (counted s t).sent ≡ length s.sent
length_sent s t =
    elim (t.source == t.target) as (λ b. length (cond b s (record { sent = raised s.sent t.source t.count; received = raised s.received t.target t.count })).sent ≡ length s.sent) [ true ↦ refl | false ↦ length-set s.sent t.source (get_or s.sent t.source 0 + t.count) ]

length_received : (s : Sums) (t : Transfer) → length (counted s t).received ≡ length s.received
length_received s t =
    elim (t.source == t.target) as (λ b. length (cond b s (record { sent = raised s.sent t.source t.count; received = raised s.received t.target t.count })).received ≡ length s.received) [ true ↦ refl | false ↦ length-set s.received t.target (get_or s.received t.target 0 + t.count) ]

pub sum_more : (P : Transfer → Bool) (t : Transfer) (ts : List Transfer) → sum_by (λ (x : Transfer). x.count) (filter P (t ∷ ts)) ≡ cond (P t) t.count 0 + sum_by (λ (x : Transfer). x.count) (filter P ts)
sum_more P t ts =
    elim (P t) as (λ b. sum_by (λ (x : Transfer). x.count) (cond b (t ∷ filter P ts) (filter P ts)) ≡ cond b t.count 0 + sum_by (λ (x : Transfer). x.count) (filter P ts)) [
      | true ↦ sum_by-cons (λ (x : Transfer). x.count) t (filter P ts)
      | false ↦ omega arith
    ]

-- the sums after transfers are the sums of the transfers
sent_all : (s : Sums) (ts : List Transfer) (p : ℕ) → p < length s.sent → get_or (fold counted s ts).sent p 0 ≡ get_or s.sent p 0 + count_sent ts p
sent_all s [] p l = omega arith
sent_all s (t ∷ ts) p l =
    sent_all (counted s t) ts p (omega (arith, length_sent s t))
    ∙ omega (arith, sent_one s t p l, sum_more (λ (x : Transfer). (x.source == p) && not (x.target == p)) t ts)

received_all : (s : Sums) (ts : List Transfer) (p : ℕ) → p < length s.received → get_or (fold counted s ts).received p 0 ≡ get_or s.received p 0 + count_received ts p
received_all s [] p l = omega arith
received_all s (t ∷ ts) p l =
    received_all (counted s t) ts p (omega (arith, length_received s t))
    ∙ omega (arith, received_one s t p l, sum_more (λ (x : Transfer). (x.target == p) && not (x.source == p)) t ts)

length_sent_all : (s : Sums) (ts : List Transfer) → length (fold counted s ts).sent ≡ length s.sent
length_sent_all s [] = refl
length_sent_all s (t ∷ ts) = length_sent_all (counted s t) ts ∙ length_sent s t

length_received_all : (s : Sums) (ts : List Transfer) → length (fold counted s ts).received ≡ length s.received
length_received_all s [] = refl
length_received_all s (t ∷ ts) = length_received_all (counted s t) ts ∙ length_received s t

pub sent_below : (ts : List Transfer) (n : ℕ) → n ≤ most_processes → take n (fold counted no_words ts).sent ≡ each_below n (count_sent ts)
sent_below ts n h =
    let xs = (fold counted no_words ts).sent in
    let long : length xs ≡ most_processes = length_sent_all no_words ts in
    fill_by_all (count_sent ts) (take n xs) n 0 (length-take-le n xs (omega arith))
    (λ k l. get_or-take n xs k 0 l ∙ sent_all no_words ts k (omega (arith, length-replicate {A = ℕ} most_processes 0)) ∙ omega (arith, get_or-replicate {A = ℕ} most_processes k 0 0 (omega arith)))

pub received_below : (ts : List Transfer) (n : ℕ) → n ≤ most_processes → take n (fold counted no_words ts).received ≡ each_below n (count_received ts)
received_below ts n h =
    let xs = (fold counted no_words ts).received in
    let long : length xs ≡ most_processes = length_received_all no_words ts in
    fill_by_all (count_received ts) (take n xs) n 0 (length-take-le n xs (omega arith))
    (λ k l. get_or-take n xs k 0 l ∙ received_all no_words ts k (omega (arith, length-replicate {A = ℕ} most_processes 0)) ∙ omega (arith, get_or-replicate {A = ℕ} most_processes k 0 0 (omega arith)))

-- one process more
transfers_from-append : (n m : ℕ) (os : List OutcomeParts) (o : OutcomeParts) → m ≡ n + length os → transfers_from n (os ++ o ∷ []) ≡ transfers_from n os ++ transfers_of m o
transfers_from-append n m [] o e = let k : m ≡ n = omega arith in rw k (append-nil _)
transfers_from-append n m (x ∷ os) o e =
    ap (λ ys. transfers_of n x ++ ys) (transfers_from-append (n + 1) m os o (omega arith)) ∙ sym (append_assoc (transfers_of n x) (transfers_from (n + 1) os) (transfers_of m o))

pub transfers_more : (w : ℕ → Bool) (s : Sums) (os : List OutcomeParts) (p : ℕ) → p < length os
    → fold (counted_to w) (fold (counted_to w) s (transfers_from 0 (take p os))) (transfers_of p (outcome_of os p)) ≡ fold (counted_to w) s (transfers_from 0 (take (p + 1) os))
transfers_more w s os p l =
    let long : p ≡ 0 + length (take p os) = grind (arith, common_steps) in
    sym (fold-append (counted_to w) s (transfers_from 0 (take p os)) (transfers_of p (outcome_of os p)))
    ∙ ap (fold (counted_to w) s) (sym (transfers_from-append 0 p (take p os) (outcome_of os p) long) ∙ ap (transfers_from 0) (sym (take_more os p _ l)))

pub room_next : {R : Type 0} (w : ℕ → Bool) (f : R → Transfer) (xs : List R) (s : Sums) (m n : ℕ) → All (λ x. IsSmall (f x)) xs → length xs + n ≤ m → HasRoom s m
    → HasRoom (fold (counted_to w) s (map f xs)) n
room_next w f xs s m n small l h =
    room_after w s (map f xs) n (All-map IsSmall f xs small) (less_room s (length (map f xs) + n) m (omega (arith, length-map xs f)) h)

pub room_at : {R : Type 0} (w : ℕ → Bool) (f : R → Transfer) (xs : List R) (s after : Sums) (m n : ℕ) → after ≡ fold (counted_to w) s (map f xs) → All (λ x. IsSmall (f x)) xs → length xs + n ≤ m → HasRoom s m
    → HasRoom after n
room_at w f xs s after m n e small l h = subst (λ (x : Sums). HasRoom x n) (sym e) (room_next w f xs s m n small l h)

-- the requests of a process are small
size_at : (os : List OutcomeParts) (q : ℕ) → AreDeliverable os → q < length (sizes_of os) → get_or (sizes_of os) q 0 ≤ most_memory_words
size_at os q h l =
    let known : q < length os = omega (arith, length-sizes_of os) in
    subst (λ n. n ≤ most_memory_words) (sym (get_or-map (λ (o : OutcomeParts). length o.memory) os q (outcome_of os q) 0 known)) (h.short q (outcome_of os q) known)

pub small_puts : (os : List OutcomeParts) (p : ℕ) (o : OutcomeParts) → AreDeliverable os → p < length os → o ≡ get_or os p o → All (λ x. IsSmall (put_transfer p x)) o.puts
small_puts os p o h l e =
    let inside = at_item (AreRequestsInside (sizes_of os)) os p o h.inside l e in
    λ k d i. let x : Put = get_or o.puts k d in let w = inside.puts k d i in
    record {
      known_source = omega (arith, h.few);
      known_target = omega (arith, h.few, w.known, length-sizes_of os);
      few_words = omega (arith, w.inside, size_at os x.target h w.known);
    }

pub small_gets : (os : List OutcomeParts) (p : ℕ) (o : OutcomeParts) → AreDeliverable os → p < length os → o ≡ get_or os p o → All (λ x. IsSmall (get_transfer p x)) o.gets
small_gets os p o h l e =
    let inside = at_item (AreRequestsInside (sizes_of os)) os p o h.inside l e in
    λ k d i. let x : Get = get_or o.gets k d in let w = inside.gets k d i in
    record {
      known_source = omega (arith, h.few, w.known, length-sizes_of os);
      known_target = omega (arith, h.few);
      few_words = omega (arith, w.inside, size_at os x.owner h w.known);
    }

pub small_sends : (os : List OutcomeParts) (p : ℕ) (o : OutcomeParts) → AreDeliverable os → p < length os → o ≡ get_or os p o → All IsShortSend o.sends → All (λ x. IsSmall (send_transfer p x)) o.sends
small_sends os p o h l e short =
    let inside = at_item (AreRequestsInside (sizes_of os)) os p o h.inside l e in
    λ k d i. let w = inside.sends k d i in let m = short k d i in
    record {
      known_source = omega (arith, h.few);
      known_target = omega (arith, h.few, w, length-sizes_of os);
      few_words = omega (arith, m.tag, m.words);
    }
