-- Delivery keeps what a run keeps.
use Rattle.std.proofs.Common.{◌≡◌, ◌≤◌, ◌<◌, ◌+◌, ◌*◌, ℕ, List, [], ◌∷◌, ◌++◌, map, filter, length, All, arith, sym, ap, ◌∙◌, subst, Option, Some, None, suc, ◌==◌, Bool, true, false, cond, length-append}
use Rattle.std.specs.Prelude.{unwrap_or}
use Rattle.std.proofs.lemmas.List.{get_or-map, length-map}
use Rattle.std.proofs.lemmas.List.FromFn.{get_or-map-range_with_len, length-map-range_with_len, fill_by_all}
use Rattle.std.proofs.lemmas.List.Elements.{All-map, All-nil, All-append, All-filter, All-head, All-tail}
use Rattle.bsp_model.specs.Limits.{most_processes, most_requests, most_tag_words}
use Rattle.bsp_model.specs.declared.request.Send.{Send}
use Rattle.bsp_step.specs.ViewParts.{IsQueue, IsShortMessage}
use Rattle.bsp_step.specs.OutcomeParts.{OutcomeParts, IsOutcome, IsShortSend, IsTagChoice, no_outcome, outcome_of}
use Rattle.bsp_deliver.specs.Requests.{requests_from, all_sends}
use Rattle.bsp_deliver.specs.Requests.{each_below}
use Rattle.bsp_deliver.specs.Delivery.{delivery_parts, next_memory, next_queue, next_word, message_of}
use Rattle.bsp_deliver.specs.Condition.{sizes_of}
use Rattle.bsp_deliver.specs.SyncFault.{next_tag_size}

-- every element of an each_below has what f gives at every number
pub All-each_below : {X : Type 0} (P : X → Type 0) (f : ℕ → X) (n : ℕ) → ((k : ℕ) → k < n → P (f k)) → All P (each_below n f)
All-each_below P f n h = λ k d l.
    let here : k < n = omega (arith, length-map-range_with_len f 0 n) in
    subst P (sym (get_or-map-range_with_len f 0 n k k d here (omega arith))) (h k here)

length-filter-le : {X : Type 0} (p : X → Bool) (xs : List X) → length (filter p xs) ≤ length xs
length-filter-le p [] = omega arith
length-filter-le {X = X} p (x ∷ xs) =
    let rest : length (filter p xs) ≤ length xs = length-filter-le p xs in
    elim (p x) as (λ b. length (cond b (x ∷ filter p xs) (filter p xs)) ≤ suc (length xs)) [ true ↦ omega arith | false ↦ omega arith ]

-- delivery keeps the length of a memory
pub length-next_memory : (os : List OutcomeParts) (d : ℕ) → length (next_memory (delivery_parts os d)) ≡ length (outcome_of os d).memory
unfolding next_memory delivery_parts
length-next_memory os d = length-map-range_with_len (next_word (delivery_parts os d)) 0 (length (outcome_of os d).memory)

sends_from : (n : ℕ) (os : List OutcomeParts) → All IsOutcome os → length (requests_from (λ o. o.sends) n os) ≤ most_requests * length os
sends_from n [] h = omega arith
sends_from n (o ∷ os) h =
    let pair : Send → ℕ × Send = λ m. (n, m) in
    let own : length (map pair o.sends) ≡ length o.sends = length-map o.sends pair in
    let few : length o.puts + length o.gets + length o.sends + length o.pops + length o.pushes ≤ most_requests = (All-head IsOutcome o os h).few_requests in
    let rest : length (requests_from (λ o. o.sends) (n + 1) os) ≤ most_requests * length os = sends_from (n + 1) os (All-tail IsOutcome o os h) in
    let both : length (map pair o.sends ++ requests_from (λ o. o.sends) (n + 1) os) ≡ length (map pair o.sends) + length (requests_from (λ o. o.sends) (n + 1) os) = length-append (map pair o.sends) (requests_from (λ o. o.sends) (n + 1) os) in
    omega arith

short_from : (n : ℕ) (os : List OutcomeParts) → All IsOutcome os → All (λ (m : ℕ × Send). IsShortSend m.1) (requests_from (λ o. o.sends) n os)
short_from n [] h = All-nil (λ (m : ℕ × Send). IsShortSend m.1)
short_from n (o ∷ os) h =
    All-append (λ (m : ℕ × Send). IsShortSend m.1) (map (λ (m : Send). (n, m)) o.sends) (requests_from (λ o. o.sends) (n + 1) os)
    (All-map (λ (m : ℕ × Send). IsShortSend m.1) (λ (m : Send). (n, m)) o.sends (All-head IsOutcome o os h).sends.each) (short_from (n + 1) os (All-tail IsOutcome o os h))

-- a next queue is within the limits
pub queue_within : (os : List OutcomeParts) (d : ℕ) → length os ≤ most_processes → All IsOutcome os → IsQueue (next_queue (delivery_parts os d))
unfolding next_queue delivery_parts all_sends
queue_within os d few h =
    let all = requests_from (λ o. o.sends) 0 os in
    let mine = filter (λ (m : ℕ × Send). m.1.target == d) all in
    let count : length (map (λ (m : ℕ × Send). message_of m.1) mine) ≡ length mine = length-map mine (λ (m : ℕ × Send). message_of m.1) in
    let fewer : length mine ≤ length all = length-filter-le (λ (m : ℕ × Send). m.1.target == d) all in
    let most : length all ≤ most_requests * length os = sends_from 0 os h in
    record {
      few = omega arith;
      short = All-map IsShortMessage (λ (m : ℕ × Send). message_of m.1) mine (λ k e l. let s = All-filter (λ (m : ℕ × Send). m.1.target == d) (λ (m : ℕ × Send). IsShortSend m.1) all (short_from 0 os h) k e l in record { tag = s.tag; words = s.words });
    }

small_choice : (old : ℕ) (choice : Option ℕ) → old ≤ most_tag_words → IsTagChoice choice → unwrap_or choice old ≤ most_tag_words
small_choice old None h k = h
small_choice old (Some n) h k = k

-- the next tag size is within the limit
pub tag_within : (old : ℕ) (os : List OutcomeParts) → old ≤ most_tag_words → All IsOutcome os → next_tag_size old os ≤ most_tag_words
tag_within old [] h k = h
tag_within old (o ∷ os) h k = small_choice old o.tag h (All-head IsOutcome o os k).tag

-- delivery keeps the lengths of all memories
pub sizes-next : (os : List OutcomeParts) → map (λ (m : List ℕ). length m) (each_below (length os) (λ d. next_memory (delivery_parts os d))) ≡ sizes_of os
sizes-next os =
    let f : ℕ → List ℕ = λ d. next_memory (delivery_parts os d) in
    let g : ℕ → ℕ = λ d. length (outcome_of os d).memory in
    let long : length (each_below (length os) f) ≡ length os = length-map-range_with_len f 0 (length os) in
    fill_by_all g (map (λ (m : List ℕ). length m) (each_below (length os) f)) (length os) 0 (length-map (each_below (length os) f) (λ (m : List ℕ). length m) ∙ long)
    (λ k l. get_or-map (λ (m : List ℕ). length m) (each_below (length os) f) k [] 0 (omega arith) ∙ ap (λ (m : List ℕ). length m) (get_or-map-range_with_len f 0 (length os) k k [] l (omega arith)) ∙ length-next_memory os k)
    ∙ sym (fill_by_all g (sizes_of os) (length os) 0 (length-map os (λ (o : OutcomeParts). length o.memory)) (λ k l. get_or-map (λ (o : OutcomeParts). length o.memory) os k no_outcome 0 l))
