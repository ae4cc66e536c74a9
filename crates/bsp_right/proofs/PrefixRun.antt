-- The run of prefix sums.
use Rattle.std.proofs.Common.{All, ◌≤◌, ◌%◌, ◌++◌, ◌<◌, [], ◌^◌, ap, arith, get_or, length, map, suc, zero, ℕ, ◌∙◌, ◌∷◌, ◌≡◌}
use Rattle.std.specs.List.{range_with_len}
use Rattle.bsp_model.specs.declared.input.Input.{Input}
use Rattle.bsp_step.specs.OutcomeParts.{OutcomeParts, outcome_of}
use Rattle.bsp_deliver.specs.Requests.{each_below}
use Rattle.bsp_programs.specs.Doubling.{distance}
use Rattle.bsp_run.specs.declared.result.Status.TheVariants.{Halted}
use Rattle.bsp_run.specs.Run.{Run, run}
use Rattle.bsp_run.proofs.Records.{count-state_at}
use Rattle.bsp_run.specs.Result.{lines_of, lines_of_process, status_of, memories_of, costs_of, total_of}
use Rattle.bsp_run.specs.Law.{outcomes_in}
use Rattle.bsp_right.specs.Summed.{memory_summed, costs_summed, IsPrefixInput, IsSummed, prefix_sum, prefix_turn, word_of_process}
use Rattle.bsp_right.proofs.PrefixSupersteps.{EndsAfter, ends_after, few_doublings, first_of, last_step, memory_after, prefix_run, state_after, step_more, step_zero}
use Rattle.bsp_right.proofs.PrefixTurns.{added, passes, prints_sum, registers_two}
use Rattle.bsp_right.proofs.EndedRuns.{outcomes-ended_at}
use Rattle.bsp_right.proofs.RunsFromSupersteps.{ended_at}
use Rattle.bsp_right.proofs.Ranges.{flat_map-none, map_range-agree, range-agree}
use Rattle.bsp_right.proofs.WordsWritten.{outcome_of-each_below}
use Rattle.bsp_right.proofs.PrefixSums.{sums, window-all}
use Rattle.bsp_model.proofs.Inputs.{lawful_input}
use Rattle.bsp_right.proofs.PrefixMemories.{memory_at_end}
use Rattle.bsp_right.proofs.PrefixCosts.{costs_are_summed, total_summed}

-- no lines before the last superstep
pub silent : (input : Input) (k : ℕ) → EndsAfter input k → (p : ℕ) → p < length input.mems → (j : ℕ) → j < suc k → (outcome_of (outcomes_in prefix_turn input j) p).lines ≡ []
silent input k h p m zero l =
    let n = length input.mems in
    ap (λ os. (outcome_of os p).lines) (step_zero input k h).outcomes ∙ ap (λ (o : OutcomeParts). o.lines) (outcome_of-each_below (registers_two (first_of input)) n p m)
silent input k h p m (suc t) l =
    let n = length input.mems in
    ap (λ os. (outcome_of os p).lines) (step_more input k t h (omega arith) (state_after input k h t (omega arith))).outcomes
    ∙ ap (λ (o : OutcomeParts). o.lines) (outcome_of-each_below (passes n (suc t) (memory_after (first_of input) t)) n p m)

-- what process p prints
pub printed : Input → ℕ → ℕ → ℕ
printed input k p = get_or (added (suc k) (memory_after (first_of input) k) p) 0 0

lines_summed : (input : Input) (k : ℕ) → EndsAfter input k → lines_of (ended_at prefix_turn input (suc k) Halted) ≡ each_below (length input.mems) (λ p. (printed input k p ∷ []) ∷ [])
unfolding lines_of printed
lines_summed input k h =
    let n = length input.mems in
    let last = last_step input k h in
    (λ i. each_below (count-state_at prefix_turn input (suc k) i) (lines_of_process (outcomes-ended_at prefix_turn input (suc k) i)))
    ∙ ap (λ os. each_below n (lines_of_process (map (outcomes_in prefix_turn input) (range_with_len 0 (suc k)) ++ os ∷ []))) last.outcomes
    ∙ range-agree (lines_of_process (map (outcomes_in prefix_turn input) (range_with_len 0 (suc k)) ++ each_below n (prints_sum (suc k) (memory_after (first_of input) k)) ∷ [])) (λ p. (printed input k p ∷ []) ∷ []) n 0 (λ p _ m.
    let l : p < n = omega arith in
    flat_map-none (λ os. (outcome_of os p).lines) (outcomes_in prefix_turn input) (each_below n (prints_sum (suc k) (memory_after (first_of input) k)) ∷ []) (suc k) 0 (λ j _ b. silent input k h p l j (omega arith))
    ∙ (λ i. (outcome_of-each_below (prints_sum (suc k) (memory_after (first_of input) k)) n p l i).lines ++ []))

printed_is : (input : Input) (k : ℕ) → EndsAfter input k → (p : ℕ) → p < length input.mems → printed input k p ≡ prefix_sum input p
unfolding printed
printed_is input k h p l =
    sums input k h k (omega arith) p l ∙ ap (λ w. w % 2 ^ 64) (window-all (word_of_process input) p (distance (suc k)) (omega (arith, h.reached)))

-- Prefix sums are the sums.
pub prefix_sums : (input : Input) → All (λ memory. get_or memory 0 0 < 2 ^ 64) input.mems → (k : ℕ) → IsPrefixInput input k → IsSummed input k (run prefix_turn input)
unfolding printed
prefix_sums input bits k given =
    let h = ends_after input k bits given in
    let n = length input.mems in
    let is = prefix_run input k h in
    let costs : costs_of (run prefix_turn input) ≡ costs_summed k input.g input.l = ap costs_of is ∙ costs_are_summed input k h in
    record {
      status = ap (λ (r : Run). status_of r) is;
      memories =
          ap (λ (r : Run). memories_of r) is
          ∙ ap (map (λ (o : OutcomeParts). o.memory)) (last_step input k h).outcomes
          ∙ map_range-agree (λ (o : OutcomeParts). o.memory) (prints_sum (suc k) (memory_after (first_of input) k)) (memory_summed input k) n 0 (λ p _ m.
          let l : p < n = omega arith in
          let reached : n ≤ 2 ^ k = given.reaches in
          memory_at_end input k h (few_doublings k n (lawful_input input h.lawful).few_processes given.least) p l (omega arith) (printed_is input k h p l));
      lines = ap lines_of is ∙ lines_summed input k h ∙ range-agree (λ p. (printed input k p ∷ []) ∷ []) (λ p. (prefix_sum input p ∷ []) ∷ []) n 0 (λ p _ m.
          ap (λ w. (w ∷ []) ∷ []) (printed_is input k h p (omega arith)));
      costs = costs;
      total = ap total_of costs ∙ total_summed k input.g input.l;
    }
