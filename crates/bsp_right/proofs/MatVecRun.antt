-- The run of a product.
use Rattle.std.proofs.Common.{◌*◌, ◌+◌, ◌++◌, ◌-◌, ◌<◌, List, None, Some, [], ap, arith, get_or, length, map, refl, suc, zero, ℕ, ◌∙◌, ◌∷◌, ◌≡◌, ◌≤◌}
use Rattle.std.specs.Prelude.{slice_get}
use Rattle.bsp_model.specs.Limits.{most_line_words, most_memory_words}
use Rattle.bsp_model.specs.declared.cost.CostRow.{CostRow}
use Rattle.bsp_model.specs.declared.input.Input.{Input}
use Rattle.bsp_model.specs.declared.request.Send.{Send}
use Rattle.bsp_model.proofs.Inputs.{lawful_input}
use Rattle.bsp_step.specs.OutcomeParts.{OutcomeParts}
use Rattle.bsp_deliver.specs.Delivery.{delivery_parts, message_of, next_queue}
use Rattle.bsp_deliver.specs.Requests.{each_below}
use Rattle.bsp_programs.specs.MatVec.{block_start, product_start}
use Rattle.bsp_run.specs.declared.result.Status.TheVariants.{Halted}
use Rattle.bsp_run.specs.Run.{Run, run}
use Rattle.bsp_run.specs.Result.{cost_of_delivery, cost_of_end, costs_of, lines_of, lines_of_process, memories_of, status_of, total_of}
use Rattle.bsp_run.proofs.Records.{count-state_at}
use Rattle.bsp_run.specs.Law.{end_in}
use Rattle.bsp_right.specs.Multiplied.{IsMatVecInput, IsMultiplied, costs_multiplied, matvec_turn, memory_multiplied, own_product}
use Rattle.bsp_right.proofs.DescribedStates.{no_queue}
use Rattle.bsp_right.proofs.MatVecAnswers.{blocks_sent, multiplies, turn_multiplies}
use Rattle.bsp_right.proofs.MatVecCosts.{h_relation-blocks}
use Rattle.bsp_right.proofs.MatVecProduct.{block_in, memory_in}
use Rattle.bsp_right.proofs.MatVecReceiving.{block_message}
use Rattle.bsp_right.proofs.MatVecTurns.{chooses_tags, sends_block, turn_chooses, turn_sends}
use Rattle.bsp_right.proofs.MessagesDelivered.{all_sent_to-one, messages-one, next_queue-is}
use Rattle.bsp_right.proofs.NextSuperstep.{GoesOnWith, Halts, first-described, goes_on_with, halts, next_queue-none}
use Rattle.bsp_right.proofs.Ranges.{map_range-agree, range-agree}
use Rattle.bsp_right.proofs.RunsFromSupersteps.{ended_at, run-ended}
use Rattle.bsp_right.proofs.SuperstepCosts.{h_relation-none, largest_work-none, largest_work-same}
use Rattle.bsp_right.proofs.WordsWritten.{next_memory-is, outcome_of-each_below, written_by-none}

-- the supersteps of a product
pub record Supersteps (input : Input) (b : ℕ) : Type 0 where
  pub first : GoesOnWith matvec_turn input 0 (length input.mems) (memory_in input) no_queue [] 1 (chooses_tags (memory_in input))
  pub second : GoesOnWith matvec_turn input 1 (length input.mems) (memory_in input) (blocks_sent input b) [] 1 (sends_block (length input.mems) b (memory_in input))
  pub third : Halts matvec_turn input 2 (length input.mems) (multiplies input b)

-- the queue of process d, when all blocks were sent
queue_is : (input : Input) (b d : ℕ) → d < length input.mems → next_queue (delivery_parts (each_below (length input.mems) (sends_block (length input.mems) b (memory_in input))) d) ≡ blocks_sent input b d
queue_is input b d l =
    let n = length input.mems in
    let out = sends_block n b (memory_in input) in
    next_queue-is n d out
    ∙ all_sent_to-one d out (block_message (block_in input b)) n 0 (λ p _ _. ap (λ (ms : List Send). map message_of ms) (messages-one d (p ∷ []) (block_in input b p) n 0 (omega arith) (omega arith)))

pub supersteps : (input : Input) (b : ℕ) → IsMatVecInput input b → Supersteps input b
supersteps input b h =
    let n = length input.mems in
    let lawful = lawful_input input h.lawful in
    let memory : ℕ → List ℕ = memory_in input in
    let room : (p : ℕ) → p < n → product_start n b + b ≤ length (memory p) = λ p l. h.words p [] l in
    let short : (p : ℕ) → p < n → length (memory p) ≤ most_memory_words = λ p l. lawful.short_memories p [] l in
    let few : b ≤ most_line_words = h.few in
    let named : (p : ℕ) → p < n → slice_get (get_or input.args p []) 0 ≡ Some b = λ p l. h.rows p [] (omega (arith, lawful.same_count)) in
    let first = goes_on_with matvec_turn input 0 n memory memory no_queue no_queue [] 0 [] 0 (λ p. []) (Some 1) (chooses_tags memory)
    (first-described matvec_turn input)
    (λ p l. turn_chooses input.args n b memory p (named p l) few (room p l))
    (record { some = lawful.some_process; faultless = λ p _. refl; syncs = λ p _. refl; pops = λ p _. refl; counts = λ p _. refl; pushes = λ p _. refl; tags = λ p _. refl })
    (omega arith) (λ d _. next_queue-none n d (chooses_tags memory) (λ p _. refl))
    (λ d l. next_memory-is n d (chooses_tags memory) (memory d) l refl refl (λ a _. written_by-none d a (chooses_tags memory) n 0 (get_or (memory d) a 0) (λ p _ _. refl))) in
    let second = goes_on_with matvec_turn input 1 n memory memory no_queue (blocks_sent input b) [] 1 [] 0 (λ p. []) None (sends_block n b memory)
    first.state
    (λ p l. turn_sends input.args n b memory p lawful.few_processes (named p l) few (room p l))
    (record { some = lawful.some_process; faultless = λ p _. refl; syncs = λ p _. refl; pops = λ p _. refl; counts = λ p _. refl; pushes = λ p _. refl; tags = λ p _. refl })
    (omega arith) (λ d l. queue_is input b d l)
    (λ d l. next_memory-is n d (sends_block n b memory) (memory d) l refl refl (λ a _. written_by-none d a (sends_block n b memory) n 0 (get_or (memory d) a 0) (λ p _ _. refl))) in
    let third = halts matvec_turn input 2 n memory (blocks_sent input b) [] 1 (multiplies input b)
    second.state
    (λ p l. turn_multiplies input b p (named p l) few (short p l) (room p l))
    (record { some = lawful.some_process; faultless = λ p _. refl; halts = λ p _. refl }) in
    record { first = first; second = second; third = third }

before_two : (input : Input) (b : ℕ) → Supersteps input b → (j : ℕ) → j < 2 → end_in matvec_turn input j ≡ None
before_two input b h zero l = h.first.end
before_two input b h (suc zero) l = h.second.end
before_two input b h (suc (suc j)) l = absurd (omega arith)

-- The run of a product ends with its third superstep.
matvec_run : (input : Input) (b : ℕ) → IsMatVecInput input b → run matvec_turn input ≡ ended_at matvec_turn input 2 Halted
matvec_run input b h =
    let steps = supersteps input b h in
    run-ended matvec_turn input 2 (input.limit - 3) Halted (omega (arith, h.room)) (before_two input b steps) steps.third.end

lines_multiplied : (input : Input) (b : ℕ) → Supersteps input b → lines_of (ended_at matvec_turn input 2 Halted) ≡ each_below (length input.mems) (λ p. own_product input b p ∷ [])
unfolding lines_of
lines_multiplied input b h =
    let n = length input.mems in
    let memory = memory_in input in
    (λ i. each_below (count-state_at matvec_turn input 2 i) (lines_of_process (h.first.outcomes i ∷ h.second.outcomes i ∷ h.third.outcomes i ∷ [])))
    ∙ range-agree (lines_of_process (each_below n (chooses_tags memory) ∷ each_below n (sends_block n b memory) ∷ each_below n (multiplies input b) ∷ [])) (λ p. own_product input b p ∷ []) n 0 (λ p _ m.
    let l : p < n = omega arith in
    λ i. (outcome_of-each_below (chooses_tags memory) n p l i).lines ++ ((outcome_of-each_below (sends_block n b memory) n p l i).lines ++ ((outcome_of-each_below (multiplies input b) n p l i).lines ++ [])))

row : ℕ → ℕ → ℕ → ℕ → CostRow
row g l w h = record { work = w; h = h; cost = w + h * g + l }

cost_first : (g l : ℕ) → 0 + 0 * g + l ≡ l
cost_first g l = omega arith

cost_second : (x l : ℕ) → 0 + x + l ≡ x + l
cost_second x l = omega arith

total_is : (x w l : ℕ) → 0 + l + (x + l) + w ≡ w + x + 2 * l
total_is x w l = omega arith

costs_are : (input : Input) (b : ℕ) → 1 ≤ length input.mems → Supersteps input b → costs_of (ended_at matvec_turn input 2 Halted) ≡ costs_multiplied (length input.mems) b input.g input.l
unfolding costs_of row
costs_are input b some h =
    let n = length input.mems in
    let memory = memory_in input in
    let square : block_start n b ≡ n * b * b = omega arith in
    let w0 = largest_work-none n (chooses_tags memory) (λ p _. refl) in
    let w1 = largest_work-none n (sends_block n b memory) (λ p _. refl) in
    let w2 = largest_work-same n (n * b * b) (multiplies input b) some (λ p _. square) in
    let h0 = h_relation-none n (chooses_tags memory) (record { puts = λ p _. refl; gets = λ p _. refl; sends = λ p _. refl }) in
    let h1 = h_relation-blocks n b memory some in
    (λ i. map (cost_of_delivery input.g input.l) (h.first.outcomes i ∷ h.second.outcomes i ∷ []) ++ map cost_of_end (h.third.outcomes i ∷ []))
    ∙ (λ i. row input.g input.l (w0 i) (h0 i) ∷ row input.g input.l (w1 i) (h1 i) ∷ record { work = w2 i; h = 0; cost = w2 i } ∷ [])
    ∙ (λ i. record { work = 0; h = 0; cost = cost_first input.g input.l i } ∷ record { work = 0; h = (n - 1) * (b + 1); cost = cost_second ((n - 1) * (b + 1) * input.g) input.l i } ∷ record { work = n * b * b; h = 0; cost = n * b * b } ∷ [])

-- A product multiplies.
pub matvec_multiplies : (input : Input) (b : ℕ) → IsMatVecInput input b → IsMultiplied input b (run matvec_turn input)
matvec_multiplies input b h =
    let n = length input.mems in
    let steps = supersteps input b h in
    let is = matvec_run input b h in
    let costs : costs_of (run matvec_turn input) ≡ costs_multiplied n b input.g input.l = ap costs_of is ∙ costs_are input b (lawful_input input h.lawful).some_process steps in
    record {
      status = ap (λ (r : Run). status_of r) is;
      memories = ap (λ (r : Run). memories_of r) is ∙ ap (map (λ (o : OutcomeParts). o.memory)) steps.third.outcomes ∙ map_range-agree (λ (o : OutcomeParts). o.memory) (multiplies input b) (memory_multiplied input b) n 0 (λ p _ _. refl);
      lines = ap lines_of is ∙ lines_multiplied input b steps;
      costs = costs;
      total = ap total_of costs ∙ total_is ((n - 1) * (b + 1) * input.g) (n * b * b) input.l;
    }
