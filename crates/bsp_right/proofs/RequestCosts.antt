-- The h-relation of a superstep from what the requests of each process move.
use Rattle.std.proofs.Common.{◌&&◌, ◌+◌, ◌++◌, ◌<◌, ◌==◌, Bool, List, [], ap, arith, cond, false, filter, map, not, refl, suc, true, zero, ℕ, ◌∙◌, ◌∷◌, ◌≡◌, ◌≤◌}
use Rattle.std.specs.Prelude.{sum_by}
use Rattle.std.specs.List.{range_with_len}
use Rattle.std.proofs.lemmas.List.{map-append}
use Rattle.std.proofs.lemmas.List.Elements.{filter-append}
use Rattle.std.proofs.lemmas.List.FromFn.{length-map-range_with_len}
use Rattle.std.proofs.lemmas.List.Sums.{sum_by-append, sum_by-cons}
use Rattle.bsp_step.specs.OutcomeParts.{OutcomeParts}
use Rattle.bsp_deliver.specs.Cost.{Transfer, count_received, count_sent, get_transfer, h_relation, largest, put_transfer, send_transfer, transfers}
use Rattle.bsp_deliver.specs.Requests.{all_gets, all_puts, all_sends, each_below, requests_from}
use Rattle.bsp_right.proofs.SumsOver.{sum_over}
use Rattle.bsp_right.proofs.SuperstepCosts.{h_of, largest-ge, largest-le}

-- the words of the transfers that pass a test
abbrev pub words_of : (Transfer → Bool) → List Transfer → ℕ
words_of test ts = sum_by (λ (t : Transfer). t.count) (filter test ts)

-- words that process p sends to others, or receives from others
abbrev pub leaves_process : ℕ → Transfer → Bool
leaves_process p t = (t.source == p) && not (t.target == p)

abbrev pub reaches_process : ℕ → Transfer → Bool
reaches_process p t = (t.target == p) && not (t.source == p)

-- the words that the requests of process q move, of the transfers that pass a test
abbrev pub words_moved : (Transfer → Bool) → (ℕ → OutcomeParts) → ℕ → ℕ
words_moved test out q = words_of test (map (put_transfer q) (out q).puts) + words_of test (map (get_transfer q) (out q).gets) + words_of test (map (send_transfer q) (out q).sends)

words_of-append : (test : Transfer → Bool) (xs ys : List Transfer) → words_of test (xs ++ ys) ≡ words_of test xs + words_of test ys
words_of-append test xs ys = ap (sum_by (λ (t : Transfer). t.count)) (filter-append test xs ys) ∙ sum_by-append (λ (t : Transfer). t.count) (filter test xs) (filter test ys)

own_requests : {R : Type 0} (transfer : ℕ → R → Transfer) (q : ℕ) (rs : List R) → map (λ (r : ℕ × R). transfer r.0 r.1) (map (λ (r : R). (q, r)) rs) ≡ map (transfer q) rs
own_requests transfer q [] = refl
own_requests transfer q (r ∷ rs) = ap (λ ts. transfer q r ∷ ts) (own_requests transfer q rs)

of_requests : {R : Type 0} (of : OutcomeParts → List R) (transfer : ℕ → R → Transfer) (test : Transfer → Bool) (out : ℕ → OutcomeParts) (n k : ℕ)
    → words_of test (map (λ (r : ℕ × R). transfer r.0 r.1) (requests_from of k (map out (range_with_len k n)))) ≡ sum_over (λ q. words_of test (map (transfer q) (of (out q)))) k n
of_requests of transfer test out zero k = refl
of_requests {R = R} of transfer test out (suc n) k =
    let move : ℕ × R → Transfer = λ (r : ℕ × R). transfer r.0 r.1 in
    let own : List (ℕ × R) = map (λ (r : R). (k, r)) (of (out k)) in
    let others : List (ℕ × R) = requests_from of (k + 1) (map out (range_with_len (k + 1) n)) in
    ap (words_of test) (map-append move own others)
    ∙ words_of-append test (map move own) (map move others)
    ∙ (λ i. words_of test (own_requests transfer k (of (out k)) i) + of_requests of transfer test out n (k + 1) i)

three_sums : (f g h : ℕ → ℕ) (n k : ℕ) → sum_over f k n + (sum_over g k n + sum_over h k n) ≡ sum_over (λ q. f q + g q + h q) k n
three_sums f g h zero k = refl
three_sums f g h (suc n) k = omega (arith, three_sums f g h n (k + 1))

-- The words of all transfers that pass a test.
pub words_of-transfers : (test : Transfer → Bool) (n : ℕ) (out : ℕ → OutcomeParts) → words_of test (transfers (each_below n out)) ≡ sum_over (words_moved test out) 0 n
unfolding transfers all_puts all_gets all_sends
words_of-transfers test n out =
    let os = each_below n out in
    let puts = map (λ p. put_transfer p.0 p.1) (requests_from (λ (o : OutcomeParts). o.puts) 0 os) in
    let gets = map (λ g. get_transfer g.0 g.1) (requests_from (λ (o : OutcomeParts). o.gets) 0 os) in
    let sends = map (λ m. send_transfer m.0 m.1) (requests_from (λ (o : OutcomeParts). o.sends) 0 os) in
    let parts : words_of test (puts ++ gets ++ sends) ≡ words_of test puts + (words_of test gets + words_of test sends) =
    omega (arith, words_of-append test (puts ++ gets) sends, words_of-append test puts gets) in
    parts
    ∙ (λ i. of_requests (λ (o : OutcomeParts). o.puts) put_transfer test out n 0 i + (of_requests (λ (o : OutcomeParts). o.gets) get_transfer test out n 0 i + of_requests (λ (o : OutcomeParts). o.sends) send_transfer test out n 0 i))
    ∙ three_sums (λ q. words_of test (map (put_transfer q) (out q).puts)) (λ q. words_of test (map (get_transfer q) (out q).gets)) (λ q. words_of test (map (send_transfer q) (out q).sends)) n 0

-- The h-relation, where no process sends or receives more than h words, and process s sends as many.
pub h_relation-is : (n h s : ℕ) (out : ℕ → OutcomeParts) → s < n
    → ((p : ℕ) → p < n → sum_over (words_moved (leaves_process p) out) 0 n ≤ h)
    → ((p : ℕ) → p < n → sum_over (words_moved (reaches_process p) out) 0 n ≤ h)
    → sum_over (words_moved (leaves_process s) out) 0 n ≡ h
    → h_relation (each_below n out) ≡ h
unfolding h_relation h_of
h_relation-is n h s out below sends receives most =
    let ts = transfers (each_below n out) in
    let sent : largest (each_below n (count_sent ts)) ≤ h = largest-le h (count_sent ts) n 0 (λ p _ m. omega (arith, words_of-transfers (leaves_process p) n out, sends p (omega arith))) in
    let received : largest (each_below n (count_received ts)) ≤ h = largest-le h (count_received ts) n 0 (λ p _ m. omega (arith, words_of-transfers (reaches_process p) n out, receives p (omega arith))) in
    let reached : count_sent ts s ≤ largest (each_below n (count_sent ts)) = largest-ge s (count_sent ts) n 0 (omega arith) (omega arith) in
    let is : count_sent ts s ≡ h = words_of-transfers (leaves_process s) n out ∙ most in
    (λ i. h_of (length-map-range_with_len out 0 n i) ts) ∙ omega arith

-- transfers that are given by a function of a number
pub words_of-range : (test : Transfer → Bool) (transfer : ℕ → Transfer) (n k : ℕ) → words_of test (map transfer (range_with_len k n)) ≡ sum_over (λ j. cond (test (transfer j)) (transfer j).count 0) k n
words_of-range test transfer zero k = refl
words_of-range test transfer (suc n) k =
    let rest = filter test (map transfer (range_with_len (k + 1) n)) in
    let later : sum_by (λ (t : Transfer). t.count) rest ≡ sum_over (λ j. cond (test (transfer j)) (transfer j).count 0) (k + 1) n = words_of-range test transfer n (k + 1) in
    elim (test (transfer k)) as (λ b. sum_by (λ (t : Transfer). t.count) (cond b (transfer k ∷ rest) rest) ≡ cond b (transfer k).count 0 + sum_over (λ j. cond (test (transfer j)) (transfer j).count 0) (k + 1) n) [
      | true ↦ sum_by-cons (λ (t : Transfer). t.count) (transfer k) rest ∙ ap (λ x. (transfer k).count + x) later
      | false ↦ omega (arith, later)
    ]

-- those of the numbers that pass another test
pub words_of-filtered : (test : Transfer → Bool) (keep : ℕ → Bool) (transfer : ℕ → Transfer) (n k : ℕ) → words_of test (map transfer (filter keep (range_with_len k n))) ≡ sum_over (λ j. cond (keep j && test (transfer j)) (transfer j).count 0) k n
words_of-filtered test keep transfer zero k = refl
words_of-filtered test keep transfer (suc n) k =
    let rest = filter keep (range_with_len (k + 1) n) in
    let kept = filter test (map transfer rest) in
    let later : sum_by (λ (t : Transfer). t.count) kept ≡ sum_over (λ j. cond (keep j && test (transfer j)) (transfer j).count 0) (k + 1) n = words_of-filtered test keep transfer n (k + 1) in
    elim (keep k) as (λ b. words_of test (map transfer (cond b (k ∷ rest) rest)) ≡ cond (b && test (transfer k)) (transfer k).count 0 + sum_over (λ j. cond (keep j && test (transfer j)) (transfer j).count 0) (k + 1) n) [
      | true ↦
          elim (test (transfer k)) as (λ b. sum_by (λ (t : Transfer). t.count) (cond b (transfer k ∷ kept) kept) ≡ cond b (transfer k).count 0 + sum_over (λ j. cond (keep j && test (transfer j)) (transfer j).count 0) (k + 1) n) [
            | true ↦ sum_by-cons (λ (t : Transfer). t.count) (transfer k) kept ∙ ap (λ x. (transfer k).count + x) later
            | false ↦ omega (arith, later)
          ]
      | false ↦ omega (arith, later)
    ]
