-- The supersteps of list ranking, and the run that they make.
use Rattle.std.proofs.Common.{◌+◌, ◌-◌, ◌<◌, List, None, [], ◌^◌, ap, arith, drop, get_or, length, refl, suc, zero, ℕ, ◌∙◌, ◌∷◌, ◌≡◌, ◌≤◌}
use Rattle.std.proofs.lemmas.Nat.{pow_below}
use Rattle.bsp_model.specs.Limits.{most_processes}
use Rattle.bsp_model.specs.declared.input.Input.{Input}
use Rattle.bsp_model.proofs.Inputs.{lawful_input}
use Rattle.bsp_programs.specs.Doubling.{distance}
use Rattle.bsp_run.specs.declared.result.Status.TheVariants.{Halted}
use Rattle.bsp_run.specs.Law.{end_in, state_at}
use Rattle.bsp_run.specs.Run.{run}
use Rattle.bsp_right.specs.Ranked.{IsListInput, rank_turn}
use Rattle.bsp_right.proofs.NextSuperstep.{GoesOn, Halts, first-described, goes_on, halts}
use Rattle.bsp_right.proofs.DescribedStates.{described, no_queue}
use Rattle.bsp_right.proofs.PrefixSupersteps.{distance-is, few_doublings}
use Rattle.bsp_right.proofs.PrefixTurns.{two_slot, two_words}
use Rattle.bsp_right.proofs.RankTurns.{Linked, asks, memory_found, memory_left, prints_rank, registers_pair, turn_asks, turn_prints_rank, turn_registers_pair}
use Rattle.bsp_right.proofs.RankWords.{found_next, onward-below}
use Rattle.bsp_right.proofs.RunsFromSupersteps.{ended_at, run-ended}
use Rattle.bsp_right.proofs.WordsWritten.{next_memory-is, written_by-none}

abbrev pub first_of : Input → ℕ → List ℕ
first_of input p = get_or input.mems p []

-- the list of an input
abbrev pub list_of : Input → (ℕ → ℕ) → (ℕ → ℕ) → Linked
list_of input element successors =
    record {
      element = element;
      successors = successors;
      third = λ p. get_or (first_of input p) 2 0;
      fourth = λ p. get_or (first_of input p) 3 0;
      rest = λ p. drop 4 (first_of input p);
    }

four_words : (memory : List ℕ) → 4 ≤ length memory → memory ≡ get_or memory 0 0 ∷ get_or memory 1 0 ∷ get_or memory 2 0 ∷ get_or memory 3 0 ∷ drop 4 memory
four_words [] h = absurd (omega arith)
four_words (a ∷ []) h = absurd (omega arith)
four_words (a ∷ b ∷ []) h = absurd (omega arith)
four_words (a ∷ b ∷ c ∷ []) h = absurd (omega arith)
four_words (a ∷ b ∷ c ∷ d ∷ rest) h = refl

module _ (input : Input) (element successors : ℕ → ℕ) (k : ℕ) (h : IsListInput input element successors k) where
  -- the memory of a process is that of its place in the list
  pub first-is : (p : ℕ) → p < length input.mems → first_of input p ≡ memory_left (list_of input element successors) 0 p
  first-is p l =
      four_words (first_of input p) (h.words p [] l)
      ∙ (λ i. h.linked p l i ∷ h.marked p l i ∷ get_or (first_of input p) 2 0 ∷ get_or (first_of input p) 3 0 ∷ drop 4 (first_of input p))

  pub few : k ≤ 6
  few = few_doublings k (length input.mems) (lawful_input input h.lawful).few_processes h.least

  pub far_enough : length input.mems ≤ distance (suc k)
  far_enough = let e : distance (suc k) ≡ 2 ^ k = distance-is k (omega (arith, few)) in let r : length input.mems ≤ 2 ^ k = h.reaches in omega arith

  pub not_yet : (t : ℕ) → t < k → distance (suc t) < length input.mems
  not_yet t l = let e : distance (suc t) ≡ 2 ^ t = distance-is t (omega (arith, few)) in let r : 2 ^ t < length input.mems = h.least t l in omega arith

  pub small : (p : ℕ) → p < length input.mems → successors p < 2 ^ 64
  small p l =
      let below : successors p < length input.mems = (h.order.places p l).0 in
      let most : length input.mems ≤ most_processes = (lawful_input input h.lawful).few_processes in
      let six : 2 ^ 6 < 2 ^ 64 = pow_below 6 64 (omega arith) in
      omega arith

  pub step_zero : GoesOn rank_turn input 0 (length input.mems) (memory_found (list_of input element successors) 0) (two_slot (length input.mems)) 0 (registers_pair (first_of input))
  step_zero =
      let n = length input.mems in
      let lawful = lawful_input input h.lawful in
      let first = first_of input in
      goes_on rank_turn input 0 n first (memory_found (list_of input element successors) 0) no_queue [] 0 (two_words ∷ []) (registers_pair first)
      (first-described rank_turn input)
      (λ p l. turn_registers_pair input.args n first p (omega (arith, h.words p [] l)))
      (record { some = lawful.some_process; faultless = λ p _. refl; syncs = λ p _. refl; pops = λ p _. refl; pushes = λ p _. refl; tags = λ p _. refl })
      (omega arith) (λ p _. refl)
      (λ d l. next_memory-is n d (registers_pair first) (first d) l refl refl (λ a _. written_by-none d a (registers_pair first) n 0 (get_or (first d) a 0) (λ p _ _. refl)) ∙ first-is d l)

  pub step_more : (t : ℕ) → t < k → state_at rank_turn input (suc t) ≡ described (length input.mems) (memory_found (list_of input element successors) t) no_queue (two_slot (length input.mems)) 0
      → GoesOn rank_turn input (suc t) (length input.mems) (memory_found (list_of input element successors) (suc t)) (two_slot (length input.mems)) 0 (asks (list_of input element successors) t)
  step_more t less is =
      let n = length input.mems in
      let lawful = lawful_input input h.lawful in
      let list = list_of input element successors in
      goes_on rank_turn input (suc t) n (memory_found list t) (memory_found list (suc t)) no_queue (two_slot n) 0 [] (asks list t)
      is
      (λ p l. turn_asks input.args list n t p (small p l) l (onward-below n list h.order (2 ^ t) p l) (not_yet t less))
      (record { some = lawful.some_process; faultless = λ p _. refl; syncs = λ p _. refl; pops = λ p _. refl; pushes = λ p _. refl; tags = λ p _. refl })
      (omega arith) (λ p _. refl)
      (λ d l. found_next n list h.order t d l)

  pub state_after : (t : ℕ) → t ≤ k → state_at rank_turn input (suc t) ≡ described (length input.mems) (memory_found (list_of input element successors) t) no_queue (two_slot (length input.mems)) 0
  state_after zero l = step_zero.state
  state_after (suc t) l =
      let e : suc (suc t) ≡ suc t + 1 = omega arith in
      ap (state_at rank_turn input) e ∙ (step_more t (omega arith) (state_after t (omega arith))).state

  delivers : (j : ℕ) → j < suc k → end_in rank_turn input j ≡ None
  delivers zero l = step_zero.end
  delivers (suc t) l = (step_more t (omega arith) (state_after t (omega arith))).end

  pub last_step : Halts rank_turn input (suc k) (length input.mems) (prints_rank (list_of input element successors) k)
  last_step =
      let n = length input.mems in
      let list = list_of input element successors in
      halts rank_turn input (suc k) n (memory_found list k) no_queue (two_slot n) 0 (prints_rank list k)
      (state_after k (omega arith))
      (λ p l. turn_prints_rank input.args list n k p (small p l) far_enough)
      (record { some = (lawful_input input h.lawful).some_process; faultless = λ p _. refl; halts = λ p _. refl })

  -- The run of list ranking ends with superstep k + 1.
  pub rank_run : run rank_turn input ≡ ended_at rank_turn input (suc k) Halted
  rank_run = run-ended rank_turn input (suc k) (input.limit - (k + 2)) Halted (omega (arith, h.room)) delivers last_step.end
