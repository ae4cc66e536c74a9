-- What the supersteps of a product cost.
use Rattle.std.proofs.Common.{◌*◌, ◌+◌, ◌-◌, ◌<◌, Bool, List, [], ap, arith, cond, false, length, map, true, ℕ, ◌∙◌, ◌∷◌, ◌≡◌, ◌≤◌}
use Rattle.std.proofs.lemmas.Bool.Decides.{nat_tests}
use Rattle.std.proofs.lemmas.List.FromFn.{length-map-range_with_len}
use Rattle.std.specs.List.{range_with_len}
use Rattle.std.proofs.Common.{get_or}
use Rattle.bsp_deliver.specs.Cost.{Transfer, h_relation, send_transfer}
use Rattle.bsp_deliver.specs.Requests.{each_below}
use Rattle.bsp_programs.specs.MatVec.{block_start}
use Rattle.bsp_right.proofs.ActsAllowed.{message_to}
use Rattle.bsp_right.proofs.MatVecTurns.{block_of, sends_block}
use Rattle.bsp_right.proofs.Ranges.{map_range-agree}
use Rattle.bsp_right.proofs.RequestCosts.{h_relation-is, leaves_process, reaches_process, words_moved, words_of, words_of-range}
use Rattle.bsp_right.proofs.SumsOver.{sum_over, sum_over-none, sum_over-one, sum_over-others}

-- a block with its tag, on its way
abbrev pub block_transfer : ℕ → ℕ → ℕ → Transfer
block_transfer b q target = record { source = q; target = target; count = 1 + b }

-- what the messages of process q move
moved : (n b : ℕ) (memory : ℕ → List ℕ) (test : Transfer → Bool) (q : ℕ) → words_moved test (sends_block n b memory) q ≡ sum_over (λ j. cond (test (block_transfer b q j)) (1 + b) 0) 0 n
moved n b memory test q =
    let size : length (block_of n b (memory q)) ≡ b = length-map-range_with_len (λ a. get_or (memory q) a 0) (block_start n b) b in
    let one : map (send_transfer q) (map (message_to (q ∷ []) (block_of n b (memory q))) (range_with_len 0 n)) ≡ map (block_transfer b q) (range_with_len 0 n) =
    map_range-agree (send_transfer q) (message_to (q ∷ []) (block_of n b (memory q))) (block_transfer b q) n 0 (λ p _ _. ap (λ k. record { source = q; target = p; count = 1 + k }) size) in
    let total : 0 + 0 + words_of test (map (send_transfer q) (map (message_to (q ∷ []) (block_of n b (memory q))) (range_with_len 0 n))) ≡ words_of test (map (send_transfer q) (map (message_to (q ∷ []) (block_of n b (memory q))) (range_with_len 0 n))) = omega arith in
    total ∙ ap (words_of test) one ∙ words_of-range test (block_transfer b q) n 0

-- A process sends its block to each other.
sent : (n b p : ℕ) (memory : ℕ → List ℕ) → p < n → sum_over (words_moved (leaves_process p) (sends_block n b memory)) 0 n ≡ (n - 1) * (b + 1)
sent n b p memory l =
    let words = words_moved (leaves_process p) (sends_block n b memory) in
    let one : 1 + b ≡ b + 1 = omega arith in
    sum_over-one words p n 0 (omega arith) (omega arith) (λ q _ _ apart.
    moved n b memory (leaves_process p) q
    ∙ sum_over-none (λ j. cond (leaves_process p (block_transfer b q j)) (1 + b) 0) n 0 (λ j _ _. (let off : leaves_process p (block_transfer b q j) ≡ false = grind (arith, nat_tests) in ap (λ t. cond t (1 + b) 0) off)))
    ∙ moved n b memory (leaves_process p) p
    ∙ sum_over-others (λ j. cond (leaves_process p (block_transfer b p j)) (1 + b) 0) (1 + b) p n 0 (omega arith) (omega arith)
    (let off : leaves_process p (block_transfer b p p) ≡ false = grind (arith, nat_tests) in ap (λ t. cond t (1 + b) 0) off)
    (λ j _ _ apart. (let on : leaves_process p (block_transfer b p j) ≡ true = grind (arith, nat_tests) in ap (λ t. cond t (1 + b) 0) on))
    ∙ ap (λ w. (n - 1) * w) one

-- It receives that of each other.
received : (n b p : ℕ) (memory : ℕ → List ℕ) → p < n → sum_over (words_moved (reaches_process p) (sends_block n b memory)) 0 n ≡ (n - 1) * (b + 1)
received n b p memory l =
    let words = words_moved (reaches_process p) (sends_block n b memory) in
    let one : 1 + b ≡ b + 1 = omega arith in
    sum_over-others words (1 + b) p n 0 (omega arith) (omega arith)
    (moved n b memory (reaches_process p) p
    ∙ sum_over-none (λ j. cond (reaches_process p (block_transfer b p j)) (1 + b) 0) n 0 (λ j _ _. (let off : reaches_process p (block_transfer b p j) ≡ false = grind (arith, nat_tests) in ap (λ t. cond t (1 + b) 0) off)))
    (λ q _ _ apart.
    moved n b memory (reaches_process p) q
    ∙ sum_over-one (λ j. cond (reaches_process p (block_transfer b q j)) (1 + b) 0) p n 0 (omega arith) (omega arith) (λ j _ _ away. (let off : reaches_process p (block_transfer b q j) ≡ false = grind (arith, nat_tests) in ap (λ t. cond t (1 + b) 0) off))
    ∙ (let on : reaches_process p (block_transfer b q p) ≡ true = grind (arith, nat_tests) in ap (λ t. cond t (1 + b) 0) on))
    ∙ ap (λ w. (n - 1) * w) one

-- The h-relation of the superstep in which all blocks are sent.
pub h_relation-blocks : (n b : ℕ) (memory : ℕ → List ℕ) → 1 ≤ n → h_relation (each_below n (sends_block n b memory)) ≡ (n - 1) * (b + 1)
h_relation-blocks n b memory some =
    h_relation-is n ((n - 1) * (b + 1)) 0 (sends_block n b memory) (omega arith) (λ p l. omega (arith, sent n b p memory l)) (λ p l. omega (arith, received n b p memory l)) (sent n b 0 memory (omega arith))
