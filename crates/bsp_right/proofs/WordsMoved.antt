-- The h-relation of a superstep in which words are put and nothing else is asked for.
use Rattle.std.proofs.Common.{◌≡◌, ◌≤◌, ◌<◌, ◌+◌, ◌==◌, ◌&&◌, ◌∙◌, not, ℕ, Bool, true, false, cond, List, [], ◌∷◌, map, filter, length, arith, ap, refl}
use Rattle.std.specs.Prelude.{sum_by}
use Rattle.std.proofs.lemmas.Bool.{eq-eqb, ne_eqb}
use Rattle.std.proofs.lemmas.List.Sums.{sum_by-cons}
use Rattle.bsp_model.specs.declared.request.Put.{Put}
use Rattle.bsp_step.specs.OutcomeParts.{OutcomeParts}
use Rattle.bsp_deliver.specs.Cost.{Transfer, get_transfer, h_relation, put_transfer, send_transfer}
use Rattle.bsp_deliver.specs.Requests.{each_below}
use Rattle.bsp_right.proofs.RequestCosts.{h_relation-is, leaves_process, reaches_process, words_moved, words_of}
use Rattle.bsp_right.proofs.SumsOver.{sum_over, sum_over-agree, sum_over-one}

-- the words that these puts bring to process d
abbrev pub words_to : ℕ → List Put → ℕ
words_to d puts = sum_by (λ (q : Put). length q.words) (filter (λ (q : Put). q.target == d) puts)

-- the words that they bring to others than process p
abbrev pub words_from : ℕ → List Put → ℕ
words_from p puts = sum_by (λ (q : Put). length q.words) (filter (λ (q : Put). not (q.target == p)) puts)

-- the words that process d receives from other processes of these
abbrev pub received_by : ℕ → (ℕ → OutcomeParts) → ℕ → ℕ → ℕ
received_by d out from n = sum_over (λ q. cond (q == d) 0 (words_to d (out q).puts)) from n

-- what process k sends counts for its own sending
sent_own : (b : Bool) (p k : ℕ) (puts : List Put) → (k == p) ≡ b → words_of (leaves_process p) (map (put_transfer k) puts) ≡ cond b (words_from p puts) 0
sent_own true p k [] e = refl
sent_own false p k [] e = refl
sent_own false p k (q ∷ qs) e =
    let rest = filter (λ (t : Transfer). (t.source == p) && not (t.target == p)) (map (put_transfer k) qs) in
    ap (λ b. sum_by (λ (t : Transfer). t.count) (cond (b && not (q.target == p)) (put_transfer k q ∷ rest) rest)) e ∙ sent_own false p k qs e
sent_own true p k (q ∷ qs) e =
    let rest = filter (λ (t : Transfer). (t.source == p) && not (t.target == p)) (map (put_transfer k) qs) in
    let others = filter (λ (r : Put). not (r.target == p)) qs in
    let later : sum_by (λ (t : Transfer). t.count) rest ≡ sum_by (λ (r : Put). length r.words) others = sent_own true p k qs e in
    ap (λ b. sum_by (λ (t : Transfer). t.count) (cond (b && not (q.target == p)) (put_transfer k q ∷ rest) rest)) e
    ∙ elim (not (q.target == p)) as (λ b. sum_by (λ (t : Transfer). t.count) (cond b (put_transfer k q ∷ rest) rest) ≡ sum_by (λ (r : Put). length r.words) (cond b (q ∷ others) others)) [
      | true ↦ omega (arith, later, sum_by-cons (λ (t : Transfer). t.count) (put_transfer k q) rest, sum_by-cons (λ (r : Put). length r.words) q others)
      | false ↦ later
    ]

-- what process k puts to d counts for what d receives, unless it is d itself
received_own : (b : Bool) (d k : ℕ) (puts : List Put) → (k == d) ≡ b → words_of (reaches_process d) (map (put_transfer k) puts) ≡ cond b 0 (words_to d puts)
received_own true d k [] e = refl
received_own false d k [] e = refl
received_own true d k (q ∷ qs) e =
    let rest = filter (λ (t : Transfer). (t.target == d) && not (t.source == d)) (map (put_transfer k) qs) in
    ap (λ b. sum_by (λ (t : Transfer). t.count) (cond ((q.target == d) && not b) (put_transfer k q ∷ rest) rest)) e
    ∙ elim (q.target == d) as (λ b. sum_by (λ (t : Transfer). t.count) (cond (b && false) (put_transfer k q ∷ rest) rest) ≡ 0) [ true ↦ received_own true d k qs e | false ↦ received_own true d k qs e ]
received_own false d k (q ∷ qs) e =
    let rest = filter (λ (t : Transfer). (t.target == d) && not (t.source == d)) (map (put_transfer k) qs) in
    let to_it = filter (λ (r : Put). r.target == d) qs in
    let later : sum_by (λ (t : Transfer). t.count) rest ≡ sum_by (λ (r : Put). length r.words) to_it = received_own false d k qs e in
    ap (λ b. sum_by (λ (t : Transfer). t.count) (cond ((q.target == d) && not b) (put_transfer k q ∷ rest) rest)) e
    ∙ elim (q.target == d) as (λ b. sum_by (λ (t : Transfer). t.count) (cond (b && true) (put_transfer k q ∷ rest) rest) ≡ sum_by (λ (r : Put). length r.words) (cond b (q ∷ to_it) to_it)) [
      | true ↦ omega (arith, later, sum_by-cons (λ (t : Transfer). t.count) (put_transfer k q) rest, sum_by-cons (λ (r : Put). length r.words) q to_it)
      | false ↦ later
    ]

-- what process q moves by its puts alone
by_puts : (out : ℕ → OutcomeParts) (test : Transfer → Bool) (q : ℕ) → (out q).gets ≡ [] → (out q).sends ≡ [] → words_moved test out q ≡ words_of test (map (put_transfer q) (out q).puts)
by_puts out test q gets sends =
    let puts = words_of test (map (put_transfer q) (out q).puts) in
    let same : puts + 0 + 0 ≡ puts = omega arith in
    (λ i. puts + words_of test (map (get_transfer q) (gets i)) + words_of test (map (send_transfer q) (sends i))) ∙ same

-- Where no process sends or receives more than h words, and one sends h.
pub h_relation-puts : (n h s : ℕ) (out : ℕ → OutcomeParts) → ((p : ℕ) → p < n → (out p).gets ≡ []) → ((p : ℕ) → p < n → (out p).sends ≡ [])
    → s < n → words_from s (out s).puts ≡ h → ((p : ℕ) → p < n → words_from p (out p).puts ≤ h) → ((d : ℕ) → d < n → received_by d out 0 n ≤ h)
    → h_relation (each_below n out) ≡ h
h_relation-puts n h s out gets sends l one few_sent few_received =
    let moved : (test : Transfer → Bool) (q : ℕ) → q < n → words_moved test out q ≡ words_of test (map (put_transfer q) (out q).puts) = λ test q m. by_puts out test q (gets q m) (sends q m) in
    let sent : (p : ℕ) → p < n → sum_over (words_moved (leaves_process p) out) 0 n ≡ words_from p (out p).puts = λ p m.
    sum_over-one (words_moved (leaves_process p) out) p n 0 (omega arith) (omega arith) (λ q _ k apart. moved (leaves_process p) q (omega arith) ∙ sent_own false p q (out q).puts (ne_eqb q p apart))
    ∙ moved (leaves_process p) p m
    ∙ sent_own true p p (out p).puts (eq-eqb p p refl)
    in
    let received : (d : ℕ) → sum_over (words_moved (reaches_process d) out) 0 n ≡ received_by d out 0 n = λ d.
    sum_over-agree (words_moved (reaches_process d) out) (λ q. cond (q == d) 0 (words_to d (out q).puts)) n 0 (λ q _ k. moved (reaches_process d) q (omega arith) ∙ received_own (q == d) d q (out q).puts refl)
    in
    h_relation-is n h s out l (λ p m. omega (arith, sent p m, few_sent p m)) (λ d m. omega (arith, received d, few_received d m)) (sent s l ∙ one)
