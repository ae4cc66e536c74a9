-- The h-relation of a superstep in which processes send messages, and put and get nothing.
use Rattle.std.proofs.Common.{◌≡◌, ◌≤◌, ◌<◌, ◌+◌, ◌==◌, ◌&&◌, ◌∙◌, ◌++◌, ◌≢◌, ℕ, zero, suc, Bool, true, false, cond, not, List, [], ◌∷◌, filter, map, length, ap, sym, refl, arith, inl, inr}
use Rattle.std.specs.Prelude.{max, sum_by}
use Rattle.std.specs.List.{flat_map, range_with_len, sum}
use Rattle.std.proofs.lemmas.Bool.{cases_lt, eq-eqb, ne_eqb}
use Rattle.std.proofs.lemmas.List.{length-append, map-append}
use Rattle.std.proofs.lemmas.List.Elements.{filter-append}
use Rattle.std.proofs.lemmas.List.FromFn.{fill_by_all}
use Rattle.std.proofs.lemmas.List.Sums.{sum_by-append, sum_by-cons}
use Rattle.bsp_model.specs.declared.request.Message.{Message}
use Rattle.bsp_model.specs.declared.request.Send.{Send}
use Rattle.bsp_step.specs.Act.{Act}
use Rattle.bsp_step.specs.OutcomeParts.{OutcomeParts, no_outcome, outcome_of}
use Rattle.bsp_step.specs.ViewParts.{ViewParts}
use Rattle.bsp_deliver.specs.Cost.{Transfer, count_received, count_sent, get_transfer, h_relation, largest, put_transfer, send_transfer, transfers}
use Rattle.bsp_deliver.specs.Delivery.{message_of}
use Rattle.bsp_deliver.specs.Requests.{all_gets, all_puts, all_sends, each_below, requests_from}
use Rattle.bsp_collectives.specs.Arrivals.{sends_made}
use Rattle.bsp_collectives.specs.Costs.{AllMakeAlone, between, most_moved}
use Rattle.bsp_collectives.proofs.MessagesSent.{read_to}

-- what counts of a message
abbrev pub counted : Message → List ℕ
counted m = m.tag ++ m.words

abbrev size : Send → ℕ
size m = length m.tag + length m.words

-- the words that go to others than process p
abbrev pub leaving : ℕ → List Send → ℕ
leaving p ms = sum_by size (filter (λ (m : Send). not (m.target == p)) ms)

-- those of transfers that pass a test
abbrev words_of : (Transfer → Bool) → List Transfer → ℕ
words_of test ts = sum_by (λ (t : Transfer). t.count) (filter test ts)

words_of-append : (test : Transfer → Bool) (xs ys : List Transfer) → words_of test (xs ++ ys) ≡ words_of test xs + words_of test ys
words_of-append test xs ys = ap (sum_by (λ (t : Transfer). t.count)) (filter-append test xs ys) ∙ sum_by-append (λ (t : Transfer). t.count) (filter test xs) (filter test ys)

abbrev leaves : ℕ → Transfer → Bool
leaves p t = (t.source == p) && not (t.target == p)

abbrev reaches : ℕ → Transfer → Bool
reaches p t = (t.target == p) && not (t.source == p)

-- what process k sends counts for its own sending,
own_leaves : (b : Bool) (p k : ℕ) (ms : List Send) → (k == p) ≡ b → words_of (leaves p) (map (send_transfer k) ms) ≡ cond b (leaving p ms) 0
own_leaves true p k [] e = refl
own_leaves false p k [] e = refl
own_leaves true p k (m ∷ ms) e =
    let rest = filter (leaves p) (map (send_transfer k) ms) in
    let others = filter (λ (x : Send). not (x.target == p)) ms in
    ap (λ b. sum_by (λ (t : Transfer). t.count) (cond (b && not (m.target == p)) (send_transfer k m ∷ rest) rest)) e
    ∙ elim (m.target == p) as (λ b. sum_by (λ (t : Transfer). t.count) (cond (not b) (send_transfer k m ∷ rest) rest) ≡ sum_by size (cond (not b) (m ∷ others) others)) [
      | true ↦ own_leaves true p k ms e
      | false ↦ sum_by-cons (λ (t : Transfer). t.count) (send_transfer k m) rest ∙ ap (λ n. size m + n) (own_leaves true p k ms e) ∙ sym (sum_by-cons size m others)
    ]
own_leaves false p k (m ∷ ms) e =
    let rest = filter (leaves p) (map (send_transfer k) ms) in
    ap (λ b. sum_by (λ (t : Transfer). t.count) (cond (b && not (m.target == p)) (send_transfer k m ∷ rest) rest)) e ∙ own_leaves false p k ms e

-- and, where it is another's, for that one's receiving
own_reaches : (b : Bool) (d k : ℕ) (ms : List Send) → (k == d) ≡ b → words_of (reaches d) (map (send_transfer k) ms) ≡ cond b 0 (length (read_to counted d ms))
own_reaches true d k [] e = refl
own_reaches false d k [] e = refl
own_reaches true d k (m ∷ ms) e =
    let rest = filter (reaches d) (map (send_transfer k) ms) in
    ap (λ b. sum_by (λ (t : Transfer). t.count) (cond ((m.target == d) && not b) (send_transfer k m ∷ rest) rest)) e
    ∙ elim (m.target == d) as (λ b. sum_by (λ (t : Transfer). t.count) (cond (b && false) (send_transfer k m ∷ rest) rest) ≡ 0) [
      | true ↦ own_reaches true d k ms e
      | false ↦ own_reaches true d k ms e
    ]
own_reaches false d k (m ∷ ms) e =
    let rest = filter (reaches d) (map (send_transfer k) ms) in
    let others = filter (λ (x : Send). x.target == d) ms in
    ap (λ b. sum_by (λ (t : Transfer). t.count) (cond ((m.target == d) && not b) (send_transfer k m ∷ rest) rest)) e
    ∙ elim (m.target == d) as (λ b. sum_by (λ (t : Transfer). t.count) (cond (b && true) (send_transfer k m ∷ rest) rest) ≡ length (flat_map (λ (x : Send). counted (message_of x)) (cond b (m ∷ others) others))) [
      | true ↦
          omega (
            arith,
            sum_by-cons (λ (t : Transfer). t.count) (send_transfer k m) rest,
            length-append m.tag m.words,
            length-append (m.tag ++ m.words) (read_to counted d ms),
            own_reaches false d k ms e,
          )
      | false ↦ own_reaches false d k ms e
    ]

own_messages : (k : ℕ) (ms : List Send) → map (λ (m : ℕ × Send). send_transfer m.0 m.1) (map (λ (r : Send). (k, r)) ms) ≡ map (send_transfer k) ms
own_messages k [] = refl
own_messages k (m ∷ ms) = ap (λ ts. send_transfer k m ∷ ts) (own_messages k ms)

-- The messages of n processes, process by process.
all_messages : (test : Transfer → Bool) (out : ℕ → OutcomeParts) (n k : ℕ)
    → words_of test (map (λ (m : ℕ × Send). send_transfer m.0 m.1) (requests_from (λ o. o.sends) k (map out (range_with_len k n)))) ≡ sum (map (λ q. words_of test (map (send_transfer q) (out q).sends)) (range_with_len k n))
all_messages test out zero k = refl
all_messages test out (suc n) k =
    let move : ℕ × Send → Transfer = λ (m : ℕ × Send). send_transfer m.0 m.1 in
    let count : ℕ → ℕ = λ q. words_of test (map (send_transfer q) (out q).sends) in
    let own : List (ℕ × Send) = map (λ (r : Send). (k, r)) (out k).sends in
    let others : List (ℕ × Send) = requests_from (λ o. o.sends) (k + 1) (map out (range_with_len (k + 1) n)) in
    ap (words_of test) (map-append move own others)
    ∙ words_of-append test (map move own) (map move others)
    ∙ (λ i. words_of test (own_messages k (out k).sends i) + all_messages test out n (k + 1) i)
    ∙ sym (sum_by-cons (λ (x : ℕ). x) (count k) (map count (range_with_len (k + 1) n)))

map-agree : {X : Type 0} (f g : ℕ → X) (n k : ℕ) → ((p : ℕ) → k ≤ p → p < k + n → f p ≡ g p) → map f (range_with_len k n) ≡ map g (range_with_len k n)
map-agree f g zero k same = refl
map-agree f g (suc n) k same = λ i. same k (omega arith) (omega arith) i ∷ map-agree f g n (k + 1) (λ p low high. same p (omega arith) (omega arith)) i

pub sum-none : (f : ℕ → ℕ) (n k : ℕ) → ((p : ℕ) → k ≤ p → p < k + n → f p ≡ 0) → sum (map f (range_with_len k n)) ≡ 0
sum-none f zero k none = refl
sum-none f (suc n) k none =
    omega (arith, sum_by-cons (λ (x : ℕ). x) (f k) (map f (range_with_len (k + 1) n)), none k (omega arith) (omega arith), sum-none f n (k + 1) (λ p low high. none p (omega arith) (omega arith)))

pub sum-one : (f : ℕ → ℕ) (s n k : ℕ) → k ≤ s → s < k + n → ((p : ℕ) → k ≤ p → p < k + n → p ≢ s → f p ≡ 0) → sum (map f (range_with_len k n)) ≡ f s
sum-one f s zero k low high others = absurd (omega arith)
sum-one f s (suc n) k low high others =
    let first = sum_by-cons (λ (x : ℕ). x) (f k) (map f (range_with_len (k + 1) n)) in
    elim (cases_lt k s) [
      | inl less ↦
          omega (arith, first, others k (omega arith) (omega arith) (λ e. omega (arith, e)), sum-one f s n (k + 1) (omega arith) (omega arith) (λ p l h other. others p (omega arith) (omega arith) other))
      | inr more ↦
          let here : f k ≡ f s = ap f (omega arith) in
          omega (arith, first, here, sum-none f n (k + 1) (λ p l h. others p (omega arith) (omega arith) (λ e. omega (arith, e))))
    ]

requests-none : {R : Type 0} (of : OutcomeParts → List R) (out : ℕ → OutcomeParts) (n k : ℕ) → ((p : ℕ) → k ≤ p → p < k + n → of (out p) ≡ []) → requests_from of k (map out (range_with_len k n)) ≡ []
requests-none of out zero k none = refl
requests-none {R = R} of out (suc n) k none =
    ap (λ (rs : List R). map (λ (r : R). (k, r)) rs ++ requests_from of (k + 1) (map out (range_with_len (k + 1) n))) (none k (omega arith) (omega arith))
    ∙ requests-none of out n (k + 1) (λ p low high. none p (omega arith) (omega arith))

-- the messages that the half of process p makes
abbrev pub made : (ℕ → ViewParts → List Act) → (ℕ → ViewParts) → ℕ → List Send
made half view p = sends_made (half p (view p))

-- the words of these that go to process d, where p is another process
abbrev pub brought : (ℕ → ViewParts → List Act) → (ℕ → ViewParts) → ℕ → ℕ → ℕ
brought half view p d = length (read_to counted d (made half view p))

sends_alone : (half : ℕ → ViewParts → List Act) (view : ℕ → ViewParts) (os : List OutcomeParts) → AllMakeAlone half view os
    → transfers os ≡ map (λ (m : ℕ × Send). send_transfer m.0 m.1) (requests_from (λ o. o.sends) 0 (map (outcome_of os) (range_with_len 0 (length os))))
unfolding transfers all_puts all_gets all_sends
sends_alone half view os all =
    let n = length os in
    let each : os ≡ map (outcome_of os) (range_with_len 0 n) = fill_by_all (outcome_of os) os n no_outcome refl (λ k l. refl) in
    let puts : requests_from (λ (o : OutcomeParts). o.puts) 0 os ≡ [] =
    ap (requests_from (λ (o : OutcomeParts). o.puts) 0) each ∙ requests-none (λ (o : OutcomeParts). o.puts) (outcome_of os) n 0 (λ p low high. all.puts p (omega arith)) in
    let gets : requests_from (λ (o : OutcomeParts). o.gets) 0 os ≡ [] =
    ap (requests_from (λ (o : OutcomeParts). o.gets) 0) each ∙ requests-none (λ (o : OutcomeParts). o.gets) (outcome_of os) n 0 (λ p low high. all.gets p (omega arith)) in
    λ i. map (λ q. put_transfer q.0 q.1) (puts i) ++ map (λ g. get_transfer g.0 g.1) (gets i) ++ map (λ m. send_transfer m.0 m.1) (requests_from (λ (o : OutcomeParts). o.sends) 0 (each i))

sent-is : (half : ℕ → ViewParts → List Act) (view : ℕ → ViewParts) (os : List OutcomeParts) → AllMakeAlone half view os → (p : ℕ) → p < length os → count_sent (transfers os) p ≡ leaving p (made half view p)
sent-is half view os all p known =
    let out = outcome_of os in
    let n = length os in
    ap (words_of (leaves p)) (sends_alone half view os all)
    ∙ all_messages (leaves p) out n 0
    ∙ ap sum (map-agree (λ q. words_of (leaves p) (map (send_transfer q) (out q).sends)) (λ q. cond (q == p) (leaving p (out q).sends) 0) n 0 (λ q low high. own_leaves (q == p) p q (out q).sends refl))
    ∙ sum-one (λ q. cond (q == p) (leaving p (out q).sends) 0) p n 0 (omega arith) (omega arith) (λ q low high other. ap (λ b. cond b (leaving p (out q).sends) 0) (ne_eqb q p other))
    ∙ ap (λ b. cond b (leaving p (out p).sends) 0) (eq-eqb p p refl)
    ∙ ap (leaving p) (all.make.sent p known)

received-is : (half : ℕ → ViewParts → List Act) (view : ℕ → ViewParts) (os : List OutcomeParts) → AllMakeAlone half view os → (d : ℕ)
    → count_received (transfers os) d ≡ sum (each_below (length os) (λ p. between (brought half view) p d))
received-is half view os all d =
    let out = outcome_of os in
    let n = length os in
    ap (words_of (reaches d)) (sends_alone half view os all)
    ∙ all_messages (reaches d) out n 0
    ∙ ap sum (map-agree (λ q. words_of (reaches d) (map (send_transfer q) (out q).sends)) (λ q. between (brought half view) q d) n 0 (λ q low high.
    own_reaches (q == d) d q (out q).sends refl ∙ ap (λ (ms : List Send). cond (q == d) 0 (length (read_to counted d ms))) (all.make.sent q (omega arith))))

-- The h-relation, where what leaves process p is counted, and so is what p brings to d.
pub h_relation-of_messages : (half : ℕ → ViewParts → List Act) (view : ℕ → ViewParts) (os : List OutcomeParts) (count : ℕ → ℕ → ℕ) → AllMakeAlone half view os
    → ((p : ℕ) → p < length os → leaving p (made half view p) ≡ sum (each_below (length os) (λ d. between count p d)))
    → ((p d : ℕ) → p < length os → d < length os → brought half view p d ≡ count p d)
    → h_relation os ≡ most_moved (length os) count
unfolding h_relation
h_relation-of_messages half view os count all sent received =
    let n = length os in
    let ts = transfers os in
    let from : each_below n (count_sent ts) ≡ each_below n (λ p. sum (each_below n (λ d. between count p d))) =
    map-agree (count_sent ts) (λ p. sum (each_below n (λ d. between count p d))) n 0 (λ p low high. sent-is half view os all p (omega arith) ∙ sent p (omega arith)) in
    let to : each_below n (count_received ts) ≡ each_below n (λ d. sum (each_below n (λ p. between count p d))) =
    map-agree (count_received ts) (λ d. sum (each_below n (λ p. between count p d))) n 0 (λ d low high.
    received-is half view os all d
    ∙ ap sum (map-agree (λ p. between (brought half view) p d) (λ p. between count p d) n 0 (λ p l h. ap (λ x. cond (p == d) 0 x) (received p d (omega arith) (omega arith))))) in
    λ i. max (largest (from i)) (largest (to i))

-- the same words move
pub most_moved-agree : (n : ℕ) (count other : ℕ → ℕ → ℕ) → ((p d : ℕ) → p < n → d < n → count p d ≡ other p d) → most_moved n count ≡ most_moved n other
most_moved-agree n count other same =
    let pair : (p d : ℕ) → p < n → d < n → between count p d ≡ between other p d = λ p d l m. ap (λ x. cond (p == d) 0 x) (same p d l m) in
    let from : each_below n (λ p. sum (each_below n (λ d. between count p d))) ≡ each_below n (λ p. sum (each_below n (λ d. between other p d))) =
    map-agree (λ p. sum (each_below n (λ d. between count p d))) (λ p. sum (each_below n (λ d. between other p d))) n 0 (λ p _ l. ap sum (map-agree (λ d. between count p d) (λ d. between other p d) n 0 (λ d _ m. pair p d (omega arith) (omega arith)))) in
    let to : each_below n (λ d. sum (each_below n (λ p. between count p d))) ≡ each_below n (λ d. sum (each_below n (λ p. between other p d))) =
    map-agree (λ d. sum (each_below n (λ p. between count p d))) (λ d. sum (each_below n (λ p. between other p d))) n 0 (λ d _ m. ap sum (map-agree (λ p. between count p d) (λ p. between other p d) n 0 (λ p _ l. pair p d (omega arith) (omega arith)))) in
    λ i. max (largest (from i)) (largest (to i))
