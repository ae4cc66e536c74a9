-- The queue after a delivery, from the messages that each process sends there.
use Rattle.std.proofs.Common.{◌+◌, ◌++◌, ◌<◌, ◌==◌, Bool, List, [], ap, arith, cond, false, filter, inl, inr, map, refl, suc, true, zero, ℕ, ◌∙◌, ◌∷◌, ◌≡◌, ◌≤◌}
use Rattle.std.proofs.lemmas.Bool.{cases_lt}
use Rattle.std.proofs.lemmas.Bool.Decides.{nat_tests}
use Rattle.std.proofs.lemmas.List.{map-append}
use Rattle.std.proofs.lemmas.List.Elements.{filter-append}
use Rattle.std.specs.List.{range_with_len}
use Rattle.bsp_model.specs.declared.request.Message.{Message}
use Rattle.bsp_model.specs.declared.request.Send.{Send}
use Rattle.bsp_step.specs.OutcomeParts.{OutcomeParts}
use Rattle.bsp_deliver.specs.Delivery.{delivery_parts, message_of, next_queue}
use Rattle.bsp_deliver.specs.Requests.{all_sends, each_below, requests_from}
use Rattle.bsp_right.proofs.ActsAllowed.{message_to}

-- the messages of a process to process d
abbrev pub sent_to : ℕ → OutcomeParts → List Message
sent_to d o = map message_of (filter (λ (m : Send). m.target == d) o.sends)

-- those of n processes, one process after the other
abbrev pub all_sent_to : ℕ → (ℕ → OutcomeParts) → ℕ → ℕ → List Message
all_sent_to d out from zero = []
all_sent_to d out from (suc n) = sent_to d (out from) ++ all_sent_to d out (from + 1) n

own_sends : (d k : ℕ) (sends : List Send) → map (λ (m : ℕ × Send). message_of m.1) (filter (λ (m : ℕ × Send). m.1.target == d) (map (λ (r : Send). (k, r)) sends)) ≡ map message_of (filter (λ (m : Send). m.target == d) sends)
own_sends d k [] = refl
own_sends d k (m ∷ ms) =
    elim (m.target == d) as (λ b. map (λ (x : ℕ × Send). message_of x.1) (cond b ((k, m) ∷ filter (λ (x : ℕ × Send). x.1.target == d) (map (λ (r : Send). (k, r)) ms)) (filter (λ (x : ℕ × Send). x.1.target == d) (map (λ (r : Send). (k, r)) ms))) ≡ map message_of (cond b (m ∷ filter (λ (x : Send). x.target == d) ms) (filter (λ (x : Send). x.target == d) ms))) [
      | true ↦ ap (λ xs. message_of m ∷ xs) (own_sends d k ms)
      | false ↦ own_sends d k ms
    ]

sent-all : (d : ℕ) (out : ℕ → OutcomeParts) (n k : ℕ) → map (λ (m : ℕ × Send). message_of m.1) (filter (λ (m : ℕ × Send). m.1.target == d) (requests_from (λ o. o.sends) k (map out (range_with_len k n)))) ≡ all_sent_to d out k n
sent-all d out zero k = refl
sent-all d out (suc n) k =
    let test : ℕ × Send → Bool = λ (m : ℕ × Send). m.1.target == d in
    let message : ℕ × Send → Message = λ (m : ℕ × Send). message_of m.1 in
    let own = map (λ (r : Send). (k, r)) (out k).sends in
    let others = requests_from (λ o. o.sends) (k + 1) (map out (range_with_len (k + 1) n)) in
    ap (map message) (filter-append test own others)
    ∙ map-append message (filter test own) (filter test others)
    ∙ (λ i. own_sends d k (out k).sends i ++ sent-all d out n (k + 1) i)

-- The next queue of a process.
pub next_queue-is : (n d : ℕ) (out : ℕ → OutcomeParts) → next_queue (delivery_parts (each_below n out) d) ≡ all_sent_to d out 0 n
unfolding next_queue delivery_parts all_sends
next_queue-is n d out = sent-all d out n 0

-- Where each process sends it one message.
pub all_sent_to-one : (d : ℕ) (out : ℕ → OutcomeParts) (message : ℕ → Message) (n k : ℕ) → ((p : ℕ) → k ≤ p → p < k + n → sent_to d (out p) ≡ message p ∷ []) → all_sent_to d out k n ≡ map message (range_with_len k n)
all_sent_to-one d out message zero k h = refl
all_sent_to-one d out message (suc n) k h =
    λ i. h k (omega arith) (omega arith) i ++ all_sent_to-one d out message n (k + 1) (λ p l m. h p (omega arith) (omega arith)) i

-- of messages to later processes none is for d
later_none : (d : ℕ) (tag words : List ℕ) (m k : ℕ) → d < k → filter (λ (x : Send). x.target == d) (map (message_to tag words) (range_with_len k m)) ≡ []
later_none d tag words zero k h = refl
later_none d tag words (suc m) k h =
    let rest = filter (λ (x : Send). x.target == d) (map (message_to tag words) (range_with_len (k + 1) m)) in
    let off : (k == d) ≡ false = grind (arith, nat_tests) in
    ap (λ b. cond b (message_to tag words k ∷ rest) rest) off ∙ later_none d tag words m (k + 1) (omega arith)

-- Of messages to processes from k on, one to each, one is for d.
pub messages-one : (d : ℕ) (tag words : List ℕ) (m k : ℕ) → k ≤ d → d < k + m → filter (λ (x : Send). x.target == d) (map (message_to tag words) (range_with_len k m)) ≡ message_to tag words d ∷ []
messages-one d tag words zero k l h = absurd (omega arith)
messages-one d tag words (suc m) k l h =
    let rest = filter (λ (x : Send). x.target == d) (map (message_to tag words) (range_with_len (k + 1) m)) in
    elim (cases_lt k d) [
      | inl less ↦
          let off : (k == d) ≡ false = grind (arith, nat_tests) in
          ap (λ b. cond b (message_to tag words k ∷ rest) rest) off ∙ messages-one d tag words m (k + 1) (omega arith) (omega arith)
      | inr more ↦
          let same : k ≡ d = omega arith in
          let on : (k == d) ≡ true = grind (arith, nat_tests) in
          ap (λ b. cond b (message_to tag words k ∷ rest) rest) on
          ∙ ap (λ xs. message_to tag words k ∷ xs) (later_none d tag words m (k + 1) (omega arith))
          ∙ ap (λ j. message_to tag words j ∷ []) same
    ]
