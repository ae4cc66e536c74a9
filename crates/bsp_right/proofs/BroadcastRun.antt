-- The run of a broadcast.
use Rattle.std.proofs.Common.{◌*◌, ◌+◌, ◌++◌, ◌-◌, ◌<◌, List, None, Some, [], ap, arith, get_or, length, map, refl, set, suc, sym, zero, ℕ, ◌∙◌, ◌∷◌, ◌≡◌, ◌≤◌}
use Rattle.std.proofs.lemmas.List.FromFn.{fill_by_all}
use Rattle.std.proofs.lemmas.List.{get_or-set_same, length-set}
use Rattle.std.proofs.lemmas.Bool.Decides.{nat_tests}
use Rattle.std.specs.Prelude.{slice_get}
use Rattle.std.proofs.lemmas.Option.{slice_get-get_or}
use Rattle.bsp_model.specs.declared.cost.CostRow.{CostRow}
use Rattle.bsp_model.specs.declared.input.Input.{Input}
use Rattle.bsp_model.proofs.Inputs.{lawful_input}
use Rattle.bsp_step.specs.OutcomeParts.{OutcomeParts}
use Rattle.bsp_deliver.specs.Requests.{each_below}
use Rattle.bsp_run.specs.declared.result.Status.TheVariants.{Halted}
use Rattle.bsp_run.specs.Run.{Run, run}
use Rattle.bsp_run.specs.Result.{cost_of_delivery, cost_of_end, costs_of, lines_of, lines_of_process, memories_of, status_of, total_of}
use Rattle.bsp_run.proofs.Records.{count-state_at}
use Rattle.bsp_run.specs.Law.{end_in}
use Rattle.bsp_right.specs.Told.{IsBroadcastInput, IsTold, broadcast_turn, costs_told, word_told}
use Rattle.bsp_right.proofs.NextSuperstep.{GoesOn, Halts, first-described, goes_on, halts, slots_of}
use Rattle.bsp_right.proofs.RunsFromSupersteps.{ended_at, run-ended}
use Rattle.bsp_right.proofs.SuperstepCosts.{h_relation-none, largest_work-none}
use Rattle.bsp_right.proofs.BroadcastCosts.{h_relation-tells}
use Rattle.bsp_right.proofs.Ranges.{map_range-agree, range-agree}
use Rattle.bsp_right.proofs.WordsWritten.{next_memory-is, outcome_of-each_below, written_by-none}
use Rattle.bsp_right.proofs.DescribedStates.{no_queue}
use Rattle.bsp_right.proofs.BroadcastTurns.{prints, registers, tells, turn_prints, turn_registers, turn_tells, word_area}
use Rattle.bsp_right.proofs.BroadcastWords.{tells_written}

-- the supersteps of a broadcast
pub record Supersteps (input : Input) (root : ℕ) : Type 0 where
  pub first : GoesOn broadcast_turn input 0 (length input.mems) (λ p. get_or input.mems p []) (slots_of (length input.mems) (word_area ∷ [])) 0 (registers (λ p. get_or input.mems p []))
  pub second : GoesOn broadcast_turn input 1 (length input.mems) (λ p. set (get_or input.mems p []) 0 (word_told input root)) (slots_of (length input.mems) (word_area ∷ []) ++ slots_of (length input.mems) []) 0 (tells (length input.mems) root (word_told input root) (λ p. get_or input.mems p []))
  pub third : Halts broadcast_turn input 2 (length input.mems) (prints (word_told input root) (λ p. set (get_or input.mems p []) 0 (word_told input root)))

pub supersteps : (input : Input) (root : ℕ) → IsBroadcastInput input root → Supersteps input root
supersteps input root h =
    let n = length input.mems in
    let lawful = lawful_input input h.lawful in
    let word = word_told input root in
    let memory : ℕ → List ℕ = λ p. get_or input.mems p [] in
    let new : ℕ → List ℕ = λ p. set (get_or input.mems p []) 0 word in
    let some : (p : ℕ) → p < n → 1 ≤ length (memory p) = λ p l. h.words p [] l in
    let named : (p : ℕ) → p < n → slice_get (get_or input.args p []) 0 ≡ Some root = λ p l. h.roots p [] (omega (arith, lawful.same_count)) in
    let first = goes_on broadcast_turn input 0 n memory memory no_queue [] 0 (word_area ∷ []) (registers memory)
    (first-described broadcast_turn input)
    (λ p l. turn_registers input.args n memory p (some p l))
    (record { some = lawful.some_process; faultless = λ p _. refl; syncs = λ p _. refl; pops = λ p _. refl; pushes = λ p _. refl; tags = λ p _. refl })
    (omega arith) (λ p _. refl)
    (λ d l. next_memory-is n d (registers memory) (memory d) l refl refl (λ a _. written_by-none d a (registers memory) n 0 (get_or (memory d) a 0) (λ p _ _. refl))) in
    let second = goes_on broadcast_turn input 1 n memory new no_queue (slots_of n (word_area ∷ [])) 0 [] (tells n root word memory)
    first.state
    (λ p l. turn_tells input.args n root word memory p lawful.few_processes l (named p l) (λ t. let same : root ≡ p = grind (arith, nat_tests) in ap (λ k. slice_get (memory k) 0) (sym same) ∙ slice_get-get_or (memory root) 0 0 (some root h.known)))
    (record { some = lawful.some_process; faultless = λ p _. refl; syncs = λ p _. refl; pops = λ p _. refl; pushes = λ p _. refl; tags = λ p _. refl })
    (omega arith) (λ p _. refl)
    (λ d l. next_memory-is n d (tells n root word memory) (new d) l refl (length-set (memory d) 0 word) (λ a _. tells_written n root word d a memory l h.known (some d l) refl)) in
    let third = halts broadcast_turn input 2 n new no_queue (slots_of n (word_area ∷ []) ++ slots_of n []) 0 (prints word new)
    second.state
    (λ p l. turn_prints input.args n word new (slots_of n (word_area ∷ []) ++ slots_of n []) p (slice_get-get_or (new p) 0 0 (omega (arith, some p l, length-set (memory p) 0 word)) ∙ ap Some (get_or-set_same (memory p) 0 word 0 (omega (arith, some p l)))))
    (record { some = lawful.some_process; faultless = λ p _. refl; halts = λ p _. refl }) in
    record { first = first; second = second; third = third }

before_two : (input : Input) (root : ℕ) → Supersteps input root → (j : ℕ) → j < 2 → end_in broadcast_turn input j ≡ None
before_two input root h zero l = h.first.end
before_two input root h (suc zero) l = h.second.end
before_two input root h (suc (suc j)) l = absurd (omega arith)

-- The run of a broadcast ends with its third superstep.
pub broadcast_run : (input : Input) (root : ℕ) → IsBroadcastInput input root → run broadcast_turn input ≡ ended_at broadcast_turn input 2 Halted
broadcast_run input root h =
    let steps = supersteps input root h in
    run-ended broadcast_turn input 2 (input.limit - 3) Halted (omega (arith, h.room)) (before_two input root steps) steps.third.end

memories_list : (input : Input) (word : ℕ) → each_below (length input.mems) (λ p. set (get_or input.mems p []) 0 word) ≡ map (λ memory. set memory 0 word) input.mems
memories_list input word =
    let n = length input.mems in
    sym (ap (map (λ memory. set memory 0 word)) (fill_by_all (λ p. get_or input.mems p []) input.mems n [] refl (λ k l. refl)) ∙ map_range-agree (λ memory. set memory 0 word) (λ p. get_or input.mems p []) (λ p. set (get_or input.mems p []) 0 word) n 0 (λ p _ _. refl))

lines_list : (input : Input) (word : ℕ) → each_below (length input.mems) (λ p. (word ∷ []) ∷ []) ≡ map (λ memory. (word ∷ []) ∷ []) input.mems
lines_list input word =
    let n = length input.mems in
    sym (ap (map (λ (memory : List ℕ). (word ∷ []) ∷ [])) (fill_by_all (λ p. get_or input.mems p []) input.mems n [] refl (λ k l. refl)) ∙ map_range-agree (λ (memory : List ℕ). (word ∷ []) ∷ []) (λ p. get_or input.mems p []) (λ p. (word ∷ []) ∷ []) n 0 (λ p _ _. refl))

lines_told : (input : Input) (root : ℕ) → Supersteps input root → lines_of (ended_at broadcast_turn input 2 Halted) ≡ map (λ memory. (word_told input root ∷ []) ∷ []) input.mems
unfolding lines_of
lines_told input root h =
    let n = length input.mems in
    let word = word_told input root in
    let memory : ℕ → List ℕ = λ p. get_or input.mems p [] in
    let new : ℕ → List ℕ = λ p. set (get_or input.mems p []) 0 word in
    (λ i. each_below (count-state_at broadcast_turn input 2 i) (lines_of_process (h.first.outcomes i ∷ h.second.outcomes i ∷ h.third.outcomes i ∷ [])))
    ∙ range-agree (lines_of_process (each_below n (registers memory) ∷ each_below n (tells n root word memory) ∷ each_below n (prints word new) ∷ [])) (λ p. (word ∷ []) ∷ []) n 0 (λ p _ m.
    let l : p < n = omega arith in
    λ i. (outcome_of-each_below (registers memory) n p l i).lines ++ ((outcome_of-each_below (tells n root word memory) n p l i).lines ++ ((outcome_of-each_below (prints word new) n p l i).lines ++ [])))
    ∙ lines_list input word

row : ℕ → ℕ → ℕ → ℕ → CostRow
row g l w h = record { work = w; h = h; cost = w + h * g + l }

total_is : (x l : ℕ) → 0 + l + (x + l) + 0 ≡ x + 2 * l
total_is x l = omega arith

cost_first : (g l : ℕ) → 0 + 0 * g + l ≡ l
cost_first g l = omega arith

cost_second : (x l : ℕ) → 0 + x + l ≡ x + l
cost_second x l = omega arith

costs_are : (input : Input) (root : ℕ) → root < length input.mems → Supersteps input root → costs_of (ended_at broadcast_turn input 2 Halted) ≡ costs_told (length input.mems) input.g input.l
unfolding costs_of row
costs_are input root known h =
    let n = length input.mems in
    let word = word_told input root in
    let memory : ℕ → List ℕ = λ p. get_or input.mems p [] in
    let new : ℕ → List ℕ = λ p. set (get_or input.mems p []) 0 word in
    let w0 = largest_work-none n (registers memory) (λ p _. refl) in
    let w1 = largest_work-none n (tells n root word memory) (λ p _. refl) in
    let w2 = largest_work-none n (prints word new) (λ p _. refl) in
    let h0 = h_relation-none n (registers memory) (record { puts = λ p _. refl; gets = λ p _. refl; sends = λ p _. refl }) in
    let h1 = h_relation-tells n root word memory known in
    (λ i. map (cost_of_delivery input.g input.l) (h.first.outcomes i ∷ h.second.outcomes i ∷ []) ++ map cost_of_end (h.third.outcomes i ∷ []))
    ∙ (λ i. row input.g input.l (w0 i) (h0 i) ∷ row input.g input.l (w1 i) (h1 i) ∷ record { work = w2 i; h = 0; cost = w2 i } ∷ [])
    ∙ (λ i. record { work = 0; h = 0; cost = cost_first input.g input.l i } ∷ record { work = 0; h = n - 1; cost = cost_second ((n - 1) * input.g) input.l i } ∷ record { work = 0; h = 0; cost = 0 } ∷ [])

-- A broadcast tells.
pub broadcast_tells : (input : Input) (root : ℕ) → IsBroadcastInput input root → IsTold input root (run broadcast_turn input)
broadcast_tells input root h =
    let n = length input.mems in
    let word = word_told input root in
    let steps = supersteps input root h in
    let new : ℕ → List ℕ = λ p. set (get_or input.mems p []) 0 word in
    let is = broadcast_run input root h in
    let costs : costs_of (run broadcast_turn input) ≡ costs_told n input.g input.l = ap costs_of is ∙ costs_are input root h.known steps in
    record {
      status = ap (λ (r : Run). status_of r) is;
      memories = ap (λ (r : Run). memories_of r) is ∙ ap (map (λ (o : OutcomeParts). o.memory)) steps.third.outcomes ∙ map_range-agree (λ (o : OutcomeParts). o.memory) (prints word new) new n 0 (λ p _ _. refl) ∙ memories_list input word;
      lines = ap lines_of is ∙ lines_told input root steps;
      costs = costs;
      total = ap total_of costs ∙ total_is ((n - 1) * input.g) input.l;
    }
