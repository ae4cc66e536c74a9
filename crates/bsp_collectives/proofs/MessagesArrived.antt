-- What is read of the messages that are delivered to a process.
use Rattle.std.proofs.Common.{◌≡◌, ◌+◌, ◌==◌, ◌∙◌, ◌++◌, ℕ, Bool, true, false, cond, List, [], ◌∷◌, filter, map, length, ap, refl}
use Rattle.std.specs.List.{flat_map, range_with_len}
use Rattle.std.proofs.lemmas.Grind.{flat_map-append}
use Rattle.std.proofs.lemmas.List.{map-append}
use Rattle.std.proofs.lemmas.List.Elements.{filter-append}
use Rattle.std.proofs.lemmas.List.Folds.{flat_map-map}
use Rattle.std.proofs.lemmas.List.FromFn.{fill_by_all}
use Rattle.bsp_model.specs.declared.request.Message.{Message}
use Rattle.bsp_model.specs.declared.request.Send.{Send}
use Rattle.bsp_step.specs.OutcomeParts.{OutcomeParts, no_outcome, outcome_of}
use Rattle.bsp_deliver.specs.Delivery.{delivery_parts, message_of, next_queue}
use Rattle.bsp_deliver.specs.Requests.{all_sends, requests_from}
use Rattle.bsp_collectives.proofs.MessagesSent.{read_to}

abbrev is_to : ℕ → (ℕ × Send) → Bool
is_to d m = m.1.target == d

abbrev message : (ℕ × Send) → Message
message m = message_of m.1

own-read : {Y : Type 0} (read : Message → List Y) (d k : ℕ) (ms : List Send) → flat_map read (map message (filter (is_to d) (map (λ (r : Send). (k, r)) ms))) ≡ read_to read d ms
own-read read d k [] = refl
own-read read d k (m ∷ ms) =
    let own = filter (is_to d) (map (λ (r : Send). (k, r)) ms) in
    let others = filter (λ (x : Send). x.target == d) ms in
    elim (m.target == d) as (λ b. flat_map read (map message (cond b ((k, m) ∷ own) own)) ≡ flat_map (λ (x : Send). read (message_of x)) (cond b (m ∷ others) others)) [
      | true ↦ ap (λ xs. read (message_of m) ++ xs) (own-read read d k ms)
      | false ↦ own-read read d k ms
    ]

all-read : {Y : Type 0} (read : Message → List Y) (d k : ℕ) (os : List OutcomeParts) → flat_map read (map message (filter (is_to d) (requests_from (λ o. o.sends) k os))) ≡ flat_map (λ (o : OutcomeParts). read_to read d o.sends) os
all-read read d k [] = refl
all-read read d k (o ∷ os) =
    let own = map (λ (r : Send). (k, r)) o.sends in
    let others = requests_from (λ (x : OutcomeParts). x.sends) (k + 1) os in
    ap (λ xs. flat_map read (map message xs)) (filter-append (is_to d) own others)
    ∙ ap (flat_map read) (map-append message (filter (is_to d) own) (filter (is_to d) others))
    ∙ flat_map-append read (map message (filter (is_to d) own)) (map message (filter (is_to d) others))
    ∙ (λ i. own-read read d k o.sends i ++ all-read read d (k + 1) os i)

-- What is read of the messages that arrive at process d: of those that process 0 sends it, then of those that process 1 sends it, and so on.
pub arrived-read : {Y : Type 0} (read : Message → List Y) (os : List OutcomeParts) (d : ℕ)
    → flat_map read (next_queue (delivery_parts os d)) ≡ flat_map (λ p. read_to read d (outcome_of os p).sends) (range_with_len 0 (length os))
unfolding next_queue delivery_parts all_sends
arrived-read read os d =
    all-read read d 0 os
    ∙ ap (flat_map (λ (o : OutcomeParts). read_to read d o.sends)) (fill_by_all (outcome_of os) os (length os) no_outcome refl (λ k l. refl))
    ∙ flat_map-map (λ (o : OutcomeParts). read_to read d o.sends) (outcome_of os) (range_with_len 0 (length os))
