-- What the supersteps of a broadcast cost.
use Rattle.std.proofs.Common.{◌&&◌, ◌*◌, ◌+◌, ◌-◌, ◌<◌, ◌==◌, Bool, List, [], ap, arith, cond, false, inl, inr, map, not, refl, sym, true, ℕ, ◌∙◌, ◌∷◌, ◌≡◌, ◌≢◌, ◌≤◌}
use Rattle.std.proofs.lemmas.Bool.{cases_eq, eq-eqb, ne_eqb}
use Rattle.std.proofs.lemmas.Bool.Decides.{nat_tests}
use Rattle.bsp_deliver.specs.Cost.{Transfer, h_relation, put_transfer}
use Rattle.bsp_deliver.specs.Requests.{each_below}
use Rattle.bsp_right.proofs.BroadcastTurns.{others, tell, tells}
use Rattle.bsp_right.proofs.RequestCosts.{h_relation-is, leaves_process, reaches_process, words_moved, words_of, words_of-filtered}
use Rattle.bsp_right.proofs.SumsOver.{sum_over, sum_over-none, sum_over-one, sum_over-others}

-- a word on its way from the root
abbrev pub word_to : ℕ → ℕ → Transfer
word_to root pid = record { source = root; target = pid; count = 1 }

told_transfers : (root word : ℕ) (pids : List ℕ) → map (put_transfer root) (map (tell word) pids) ≡ map (word_to root) pids
told_transfers root word [] = refl
told_transfers root word (pid ∷ pids) = ap (λ (ts : List Transfer). word_to root pid ∷ ts) (told_transfers root word pids)

-- of the words to the others, those that pass a test
abbrev pub told_words : (Transfer → Bool) → ℕ → ℕ → ℕ
told_words test n q = sum_over (λ j. cond (not (j == q) && test (word_to q j)) 1 0) 0 n

-- what the puts of process q move
moved : (n root word : ℕ) (memory : ℕ → List ℕ) (test : Transfer → Bool) (q : ℕ) → words_moved test (tells n root word memory) q ≡ cond (root == q) (told_words test n q) 0
moved n root word memory test q =
    let total : words_of test (map (put_transfer q) (map (tell word) (others q 0 n))) + 0 + 0 ≡ words_of test (map (put_transfer q) (map (tell word) (others q 0 n))) = omega arith in
    elim (root == q) as (λ b. words_of test (map (put_transfer q) (cond b (map (tell word) (others q 0 n)) [])) + 0 + 0 ≡ cond b (told_words test n q) 0) [
      | true ↦ total ∙ ap (words_of test) (told_transfers q word (others q 0 n)) ∙ words_of-filtered test (λ j. not (j == q)) (word_to q) n 0
      | false ↦ refl
    ]

-- the root alone moves words
of_root : (n root word : ℕ) (memory : ℕ → List ℕ) (test : Transfer → Bool) → root < n → sum_over (words_moved test (tells n root word memory)) 0 n ≡ told_words test n root
of_root n root word memory test known =
    sum_over-one (words_moved test (tells n root word memory)) root n 0 (omega arith) (omega arith) (λ q _ _ apart.
    moved n root word memory test q ∙ ap (λ b. cond b (told_words test n q) 0) (ne_eqb root q (λ e. apart (sym e))))
    ∙ moved n root word memory test root
    ∙ ap (λ b. cond b (told_words test n root) 0) (eq-eqb root root refl)

root_sends : (n root : ℕ) → root < n → told_words (leaves_process root) n root ≡ n - 1
root_sends n root known =
    let one : (n - 1) * 1 ≡ n - 1 = omega arith in
    sum_over-others (λ j. cond (not (j == root) && leaves_process root (word_to root j)) 1 0) 1 root n 0 (omega arith) (omega arith)
    (let off : (not (root == root) && leaves_process root (word_to root root)) ≡ false = grind (arith, nat_tests) in ap (λ b. cond b 1 0) off)
    (λ j _ _ apart. (let on : (not (j == root) && leaves_process root (word_to root j)) ≡ true = grind (arith, nat_tests) in ap (λ b. cond b 1 0) on))
    ∙ one

others_send : (n root p : ℕ) → p ≢ root → told_words (leaves_process p) n root ≡ 0
others_send n root p apart =
    sum_over-none (λ j. cond (not (j == root) && leaves_process p (word_to root j)) 1 0) n 0 (λ j _ _.
    (let off : (not (j == root) && leaves_process p (word_to root j)) ≡ false = grind (arith, nat_tests) in ap (λ b. cond b 1 0) off))

sent : (n root p : ℕ) → root < n → told_words (leaves_process p) n root ≤ n - 1
sent n root p known =
    elim (cases_eq p root) [
      | inl same ↦ let e : told_words (leaves_process p) n root ≡ told_words (leaves_process root) n root = ap (λ k. told_words (leaves_process k) n root) same in omega (arith, root_sends n root known)
      | inr apart ↦ omega (arith, others_send n root p apart)
    ]

received : (n root p : ℕ) → root < n → p < n → told_words (reaches_process p) n root ≤ n - 1
received n root p known l =
    let f : ℕ → ℕ = λ j. cond (not (j == root) && reaches_process p (word_to root j)) 1 0 in
    elim (cases_eq p root) [
      | inl same ↦ omega (arith, sum_over-none f n 0 (λ j _ _. (let off : (not (j == root) && reaches_process p (word_to root j)) ≡ false = grind (arith, nat_tests) in ap (λ b. cond b 1 0) off)))
      | inr apart ↦
          let on : f p ≡ 1 = (let there : (not (p == root) && reaches_process p (word_to root p)) ≡ true = grind (arith, nat_tests) in ap (λ b. cond b 1 0) there) in
          omega (arith, sum_over-one f p n 0 (omega arith) (omega arith) (λ j _ _ away. (let off : (not (j == root) && reaches_process p (word_to root j)) ≡ false = grind (arith, nat_tests) in ap (λ b. cond b 1 0) off)))
    ]

-- The h-relation of the superstep in which the root tells its word.
pub h_relation-tells : (n root word : ℕ) (memory : ℕ → List ℕ) → root < n → h_relation (each_below n (tells n root word memory)) ≡ n - 1
h_relation-tells n root word memory known =
    h_relation-is n (n - 1) root (tells n root word memory) known
    (λ p _. omega (arith, of_root n root word memory (leaves_process p) known, sent n root p known))
    (λ p l. omega (arith, of_root n root word memory (reaches_process p) known, received n root p known l))
    (of_root n root word memory (leaves_process root) known ∙ root_sends n root known)
