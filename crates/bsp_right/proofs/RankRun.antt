-- The run of list ranking.
use Rattle.std.proofs.Common.{◌++◌, ◌-◌, ◌<◌, ◌==◌, [], ◌^◌, ap, arith, cond, drop, false, length, map, min, suc, sym, zero, ℕ, ◌∙◌, ◌∷◌, ◌≡◌, ◌≤◌}
use Rattle.std.proofs.lemmas.Bool.{ne_eqb}
use Rattle.std.specs.List.{range_with_len}
use Rattle.bsp_model.specs.declared.input.Input.{Input}
use Rattle.bsp_step.specs.OutcomeParts.{OutcomeParts, outcome_of}
use Rattle.bsp_deliver.specs.Requests.{each_below}
use Rattle.bsp_run.specs.declared.result.Status.TheVariants.{Halted}
use Rattle.bsp_run.specs.Law.{outcomes_in}
use Rattle.bsp_run.specs.Run.{Run, run}
use Rattle.bsp_run.specs.Result.{costs_of, lines_of, lines_of_process, memories_of, status_of, total_of}
use Rattle.bsp_run.proofs.Records.{count-state_at}
use Rattle.bsp_right.specs.Ranked.{IsListInput, IsRanked, costs_ranked, memory_ranked, rank_turn}
use Rattle.bsp_right.proofs.Ranges.{flat_map-none, map_range-agree, range-agree}
use Rattle.bsp_right.proofs.RankCosts.{costs_are_ranked, total_ranked}
use Rattle.bsp_right.proofs.RankSupersteps.{first-is, first_of, last_step, list_of, rank_run, state_after, step_more, step_zero}
use Rattle.bsp_right.proofs.RankTurns.{Linked, asks, double, known, memory_left, onward, prints_rank, registers_pair}
use Rattle.bsp_right.proofs.EndedRuns.{outcomes-ended_at}
use Rattle.bsp_right.proofs.RunsFromSupersteps.{ended_at}
use Rattle.bsp_right.proofs.WordsWritten.{outcome_of-each_below}

-- Where the list is no longer than that, each element knows the last one, and how far it is.
known-all : (list : Linked) (far p : ℕ) → list.successors p < far → known list far p ≡ list.successors p
known-all list far p l = omega arith

onward-last : (list : Linked) (far p : ℕ) → list.successors p < far → onward list far p ≡ list.element 0
onward-last list far p l = let none : list.successors p - far ≡ 0 = omega arith in ap list.element none

-- the memory at the end
memory_at_end : (input : Input) (element successors : ℕ → ℕ) (k p : ℕ) → first_of input p ≡ memory_left (list_of input element successors) 0 p → successors p < 2 ^ k → memory_left (list_of input element successors) k p ≡ memory_ranked input element successors k p
memory_at_end input element successors zero p first near = sym first
memory_at_end input element successors (suc k) p first near =
    let list = list_of input element successors in
    let half : suc k - 1 ≡ k = omega arith in
    let fourth : min (2 ^ k) (successors p - 2 ^ k) ≡ successors p - 2 ^ (suc k - 1) = (let short : min (2 ^ k) (successors p - 2 ^ k) ≡ successors p - 2 ^ k = omega (arith, double k) in short ∙ ap (λ j. successors p - 2 ^ j) (sym half)) in
    let not_zero : (suc k == 0) ≡ false = ne_eqb (suc k) 0 (λ e. omega (arith, e)) in
    (λ i. onward-last list (2 ^ suc k) p near i ∷ known-all list (2 ^ suc k) p near i ∷ onward-last list (2 ^ suc k) p near i ∷ fourth i ∷ drop 4 (first_of input p))
    ∙ sym (ap (λ b. cond b (first_of input p) (element 0 ∷ successors p ∷ element 0 ∷ (successors p - 2 ^ (suc k - 1)) ∷ drop 4 (first_of input p))) not_zero)

module _ (input : Input) (element successors : ℕ → ℕ) (k : ℕ) (h : IsListInput input element successors k) where
  near : (p : ℕ) → p < length input.mems → successors p < 2 ^ k
  near p l = let below : successors p < length input.mems = (h.order.places p l).0 in let all : length input.mems ≤ 2 ^ k = h.reaches in omega arith

  -- no lines before the last superstep
  silent : (p : ℕ) → p < length input.mems → (j : ℕ) → j < suc k → (outcome_of (outcomes_in rank_turn input j) p).lines ≡ []
  silent p m zero l =
      let n = length input.mems in
      ap (λ os. (outcome_of os p).lines) (step_zero input element successors k h).outcomes ∙ ap (λ (o : OutcomeParts). o.lines) (outcome_of-each_below (registers_pair (first_of input)) n p m)
  silent p m (suc t) l =
      let n = length input.mems in
      ap (λ os. (outcome_of os p).lines) (step_more input element successors k h t (omega arith) (state_after input element successors k h t (omega arith))).outcomes
      ∙ ap (λ (o : OutcomeParts). o.lines) (outcome_of-each_below (asks (list_of input element successors) t) n p m)

  lines_ranked : lines_of (ended_at rank_turn input (suc k) Halted) ≡ each_below (length input.mems) (λ p. (successors p ∷ []) ∷ [])
  unfolding lines_of
  lines_ranked =
      let n = length input.mems in
      let list = list_of input element successors in
      let last = last_step input element successors k h in
      (λ i. each_below (count-state_at rank_turn input (suc k) i) (lines_of_process (outcomes-ended_at rank_turn input (suc k) i)))
      ∙ ap (λ os. each_below n (lines_of_process (map (outcomes_in rank_turn input) (range_with_len 0 (suc k)) ++ os ∷ []))) last.outcomes
      ∙ range-agree (lines_of_process (map (outcomes_in rank_turn input) (range_with_len 0 (suc k)) ++ each_below n (prints_rank list k) ∷ [])) (λ p. (successors p ∷ []) ∷ []) n 0 (λ p _ m.
      let l : p < n = omega arith in
      flat_map-none (λ os. (outcome_of os p).lines) (outcomes_in rank_turn input) (each_below n (prints_rank list k) ∷ []) (suc k) 0 (λ j _ b. silent p l j (omega arith))
      ∙ (λ i. (outcome_of-each_below (prints_rank list k) n p l i).lines ++ [])
      ∙ (λ i. (known-all list (2 ^ k) p (near p l) i ∷ []) ∷ []))

  -- List ranking ranks.
  pub rank_counts : IsRanked input element successors k (run rank_turn input)
  rank_counts =
      let n = length input.mems in
      let list = list_of input element successors in
      let is = rank_run input element successors k h in
      let costs : costs_of (run rank_turn input) ≡ costs_ranked k input.g input.l = ap costs_of is ∙ costs_are_ranked input element successors k h in
      record {
        status = ap (λ (r : Run). status_of r) is;
        memories =
            ap (λ (r : Run). memories_of r) is
            ∙ ap (map (λ (o : OutcomeParts). o.memory)) (last_step input element successors k h).outcomes
            ∙ map_range-agree (λ (o : OutcomeParts). o.memory) (prints_rank list k) (memory_ranked input element successors k) n 0 (λ p _ m.
            let l : p < n = omega arith in
            memory_at_end input element successors k p (first-is input element successors k h p l) (near p l));
        lines = ap lines_of is ∙ lines_ranked;
        costs = costs;
        total = ap total_of costs ∙ total_ranked k input.g input.l;
      }
