-- The last turn of a product.
use Rattle.std.proofs.Common.{◌*◌, ◌+◌, ◌++◌, List, None, Some, [], ap, arith, get_or, length, map, refl, ℕ, ◌∙◌, ◌∷◌, ◌≡◌, ◌≤◌}
use Rattle.std.proofs.lemmas.List.FromFn.{length-map-range_with_len}
use Rattle.std.specs.List.{range_with_len}
use Rattle.std.specs.Prelude.{slice_get}
use Rattle.bsp_model.specs.Limits.{most_line_words, most_memory_words}
use Rattle.bsp_model.specs.declared.fault.End.TheVariants.{Halt}
use Rattle.bsp_model.specs.declared.input.Input.{Input}
use Rattle.bsp_model.specs.declared.request.Message.{Message}
use Rattle.bsp_model.specs.declared.request.Store.{Store}
use Rattle.bsp_step.specs.Act.{charge, print}
use Rattle.bsp_step.specs.Context.{Context, fresh}
use Rattle.bsp_step.specs.declared.outcome.Ended.TheVariants.{Halt as HaltEnd}
use Rattle.bsp_step.specs.OutcomeParts.{OutcomeParts}
use Rattle.bsp_step.specs.Perform.{perform}
use Rattle.bsp_step.specs.Plan.{Plan, does}
use Rattle.bsp_step.specs.Turn.{closed}
use Rattle.bsp_programs.specs.MatVec.{block_start, columns, given_words, matvec_answering, matvec_multiplying, product_of, product_start, vector_start}
use Rattle.bsp_step.specs.Blocks.{stored, stores, words_at}
use Rattle.bsp_right.specs.Multiplied.{matvec_turn, memory_multiplied, own_product, product_word}
use Rattle.bsp_right.proofs.ActsAllowed.{leaves, leaves-after, perform-charge, perform-print}
use Rattle.bsp_right.proofs.DescribedStates.{quiet, view_described}
use Rattle.bsp_right.proofs.MatVecProduct.{block_in, gathered, length-block_in, length-gathered, matrix_in, memory_at_end, memory_in, product_is}
use Rattle.bsp_right.proofs.MatVecReceiving.{block_message, blocks_taken, received_log, taken}
use Rattle.bsp_right.proofs.MatVecTurns.{turn_working, words_at-all}
use Rattle.bsp_right.proofs.MatVecStores.{logged, perform_all-stores}

-- a turn that leaves a memory, answers a line and charges for the rows
abbrev pub answers : ℕ → ℕ → List Store → List ℕ → List ℕ → OutcomeParts
answers n b log memory product = record (quiet memory) { ended = HaltEnd; stores = log; lines = product ∷ []; work = block_start n b }

-- the product is stored, charged for and printed
answering : (n b : ℕ) (product : List ℕ) (c : Context) → c.fault ≡ None → c.work ≡ 0 → c.lines ≡ [] → length product ≤ most_line_words → product_start n b + length product ≤ length c.memory → block_start n b ≤ most_memory_words
    → leaves c (matvec_answering n b product)
    ≡ closed (record c { memory = stored c.memory (product_start n b) product; stores = c.stores ++ logged (product_start n b) product; work = block_start n b; lines = product ∷ [] }) Halt
answering n b product c faultless idle silent short inside little =
    let ps = product_start n b in
    let last : Plan = does (charge (block_start n b) ∷ print product ∷ []) Halt in
    let d : Context = record c { memory = stored c.memory ps product; stores = c.stores ++ logged ps product } in
    let e : Context = record d { work = c.work + block_start n b } in
    let total : c.work + block_start n b ≡ block_start n b = omega arith in
    let none : length c.lines ≡ 0 = ap (λ (ls : List (List ℕ)). length ls) silent in
    leaves-after c (stores ps product) last
    ∙ ap (λ x. leaves x last) (perform_all-stores product ps c faultless inside)
    ∙ ap (λ x. closed (perform x (print product)) Halt) (perform-charge d (block_start n b) faultless (omega arith))
    ∙ ap (λ x. closed x Halt) (perform-print e product faultless (omega arith) short)
    ∙ (λ i. closed (record d { work = total i; lines = silent i ++ product ∷ [] }) Halt)

-- The turn of process p: it has taken all blocks, and answers its words of the product.
abbrev pub multiplies : Input → ℕ → ℕ → OutcomeParts
multiplies input b p =
    let n = length input.mems in
    answers n b (received_log (vector_start n b) b (block_in input b) 0 n ++ logged (product_start n b) (own_product input b p)) (memory_multiplied input b p) (own_product input b p)

-- all blocks, as messages
abbrev pub blocks_sent : Input → ℕ → ℕ → List Message
blocks_sent input b p = map (block_message (block_in input b)) (range_with_len 0 (length input.mems))

multiplied_by : (input : Input) (b p : ℕ) (c : Context) → c.fault ≡ None → c.work ≡ 0 → c.lines ≡ [] → c.memory ≡ gathered input b p → b ≤ most_line_words → length (memory_in input p) ≤ most_memory_words → product_start (length input.mems) b + b ≤ length (memory_in input p)
    → leaves c (matvec_multiplying (length input.mems) b (gathered input b p))
    ≡ closed (record c { memory = memory_multiplied input b p; stores = c.stores ++ logged (product_start (length input.mems) b) (own_product input b p); work = block_start (length input.mems) b; lines = own_product input b p ∷ [] }) Halt
multiplied_by input b p c faultless idle silent is few short h =
    let n = length input.mems in
    let m = gathered input b p in
    let size : length m ≡ length (memory_in input p) = length-gathered input b p in
    let own = own_product input b p in
    let count : length own ≡ b = length-map-range_with_len (product_word input b) (p * b) b in
    let long : length c.memory ≡ length m = ap (λ (ws : List ℕ). length ws) is in
    ap (λ o. leaves c (given_words o (λ matrix. given_words (words_at m (vector_start n b) (columns n b)) (λ vector. matvec_answering n b (product_of b (columns n b) matrix vector))))) (words_at-all m (block_start n b) 0 (omega arith))
    ∙ ap (λ o. leaves c (given_words o (λ vector. matvec_answering n b (product_of b (columns n b) (matrix_in input b p) vector)))) (words_at-all m (columns n b) (vector_start n b) (omega arith))
    ∙ ap (λ words. leaves c (matvec_answering n b words)) (product_is input b p (omega arith))
    ∙ answering n b own c faultless idle silent (omega arith) (omega arith) (omega arith)
    ∙ (λ i. closed (record c { memory = stored (is i) (product_start n b) own; stores = c.stores ++ logged (product_start n b) own; work = block_start n b; lines = own ∷ [] }) Halt)
    ∙ (λ i. closed (record c { memory = memory_at_end input b p h i; stores = c.stores ++ logged (product_start n b) own; work = block_start n b; lines = own ∷ [] }) Halt)

pub turn_multiplies : (input : Input) (b p : ℕ) → slice_get (get_or input.args p []) 0 ≡ Some b → b ≤ most_line_words → length (memory_in input p) ≤ most_memory_words → product_start (length input.mems) b + b ≤ length (memory_in input p)
    → matvec_turn (view_described input.args 2 (length input.mems) (memory_in input) (blocks_sent input b) [] 1 p) ≡ multiplies input b p
turn_multiplies input b p named few short h =
    let n = length input.mems in
    let v = view_described input.args 2 n (memory_in input) (blocks_sent input b) [] 1 p in
    let vs = vector_start n b in
    turn_working v b named few
    ∙ blocks_taken n b (block_in input b) (length-block_in input b) n 0 (fresh v) refl (omega arith) refl (omega arith)
    ∙ multiplied_by input b p (taken vs b (block_in input b) (fresh v) 0 n) refl refl refl refl few short h
