-- The supersteps of prefix sums, and the run that they make.
use Rattle.std.proofs.Common.{◌+◌, ◌-◌, ◌<◌, All, List, None, [], ◌^◌, ap, arith, get_or, inl, inr, length, refl, suc, sym, zero, ℕ, ◌∙◌, ◌∷◌, ◌≡◌, ◌≤◌}
use Rattle.std.proofs.lemmas.Bool.{cases_lt}
use Rattle.std.specs.Prelude.{min}
use Rattle.bsp_model.specs.Limits.{most_processes}
use Rattle.bsp_model.specs.declared.input.Input.{Input}
use Rattle.bsp_model.specs.Input.{input_fault}
use Rattle.bsp_model.proofs.Inputs.{lawful_input}
use Rattle.bsp_programs.specs.Doubling.{distance}
use Rattle.bsp_run.specs.declared.result.Status.TheVariants.{Halted}
use Rattle.bsp_run.specs.Law.{end_in, state_at}
use Rattle.bsp_run.specs.Run.{run}
use Rattle.bsp_right.specs.Summed.{IsPrefixInput, prefix_turn}
use Rattle.bsp_right.proofs.NextSuperstep.{GoesOn, Halts, first-described, goes_on, halts}
use Rattle.bsp_right.proofs.DescribedStates.{described, no_queue}
use Rattle.bsp_right.proofs.RunsFromSupersteps.{ended_at, run-ended}
use Rattle.bsp_right.proofs.PrefixTurns.{length-added_at, passes, prints_sum, registers_two, turn_passes, turn_prints_sum, turn_registers_two, two_slot, two_words}
use Rattle.bsp_right.proofs.PrefixWords.{length-passed_on, passed_on, passed_written}
use Rattle.bsp_right.proofs.WordsWritten.{next_memory-is, written_by-none}

-- An input whose last superstep is k + 1.
pub record EndsAfter (input : Input) (k : ℕ) : Type 0 where
  pub lawful : input_fault input ≡ None
  pub words : All (λ memory. 2 ≤ length memory) input.mems
  pub small : All (λ memory. get_or memory 0 0 < 2 ^ 64) input.mems
  pub reached : length input.mems ≤ distance (suc k)
  pub before : (t : ℕ) → t < k → distance (suc t) < length input.mems
  pub room : k + 2 ≤ input.limit

pub distance-is : (t : ℕ) → t ≤ 7 → distance (suc t) ≡ 2 ^ t
distance-is t h = let e : min (suc t) 8 - 1 ≡ t = omega arith in ap (λ x. 2 ^ x) e

-- As many processes as there may be are reached by 6 doublings.
pub few_doublings : (k n : ℕ) → n ≤ most_processes → ((j : ℕ) → j < k → 2 ^ j < n) → k ≤ 6
few_doublings k n few least =
    elim (cases_lt 6 k) [
      | inl more ↦ let h : 64 < n = least 6 more in absurd (omega arith)
      | inr less ↦ omega arith
    ]

pub ends_after : (input : Input) (k : ℕ) → All (λ memory. get_or memory 0 0 < 2 ^ 64) input.mems → IsPrefixInput input k → EndsAfter input k
ends_after input k bits h =
    let n = length input.mems in
    let few : k ≤ 6 = few_doublings k n (lawful_input input h.lawful).few_processes h.least in
    record {
      lawful = h.lawful;
      words = h.words;
      small = bits;
      reached = (let e : distance (suc k) ≡ 2 ^ k = distance-is k (omega arith) in let r : n ≤ 2 ^ k = h.reaches in omega arith);
      before = λ t l. (let e : distance (suc t) ≡ 2 ^ t = distance-is t (omega arith) in let r : 2 ^ t < n = h.least t l in omega arith);
      room = h.room;
    }

abbrev pub first_of : Input → ℕ → List ℕ
first_of input p = get_or input.mems p []

-- the memory that process p sees in superstep t + 1
abbrev pub memory_after : (ℕ → List ℕ) → ℕ → ℕ → List ℕ
memory_after first zero = first
memory_after first (suc t) = passed_on (suc t) (memory_after first t)

length-after : (first : ℕ → List ℕ) (t p : ℕ) → length (memory_after first t p) ≡ length (first p)
length-after first zero p = refl
length-after first (suc t) p = length-passed_on (suc t) (memory_after first t) p ∙ length-after first t p

pub has_words : (input : Input) (k : ℕ) → EndsAfter input k → (t p : ℕ) → p < length input.mems → 2 ≤ length (memory_after (first_of input) t p)
has_words input k h t p l = omega (arith, length-after (first_of input) t p, h.words p [] l)

pub step_zero : (input : Input) (k : ℕ) → EndsAfter input k → GoesOn prefix_turn input 0 (length input.mems) (first_of input) (two_slot (length input.mems)) 0 (registers_two (first_of input))
step_zero input k h =
    let n = length input.mems in
    let lawful = lawful_input input h.lawful in
    goes_on prefix_turn input 0 n (first_of input) (first_of input) no_queue [] 0 (two_words ∷ []) (registers_two (first_of input))
    (first-described prefix_turn input)
    (λ p l. turn_registers_two input.args n (first_of input) p (has_words input k h 0 p l))
    (record { some = lawful.some_process; faultless = λ p _. refl; syncs = λ p _. refl; pops = λ p _. refl; pushes = λ p _. refl; tags = λ p _. refl })
    (omega arith) (λ p _. refl)
    (λ d l. next_memory-is n d (registers_two (first_of input)) (first_of input d) l refl refl (λ a _. written_by-none d a (registers_two (first_of input)) n 0 (get_or (first_of input d) a 0) (λ p _ _. refl)))

pub step_more : (input : Input) (k t : ℕ) → EndsAfter input k → t < k → state_at prefix_turn input (suc t) ≡ described (length input.mems) (memory_after (first_of input) t) no_queue (two_slot (length input.mems)) 0
    → GoesOn prefix_turn input (suc t) (length input.mems) (memory_after (first_of input) (suc t)) (two_slot (length input.mems)) 0 (passes (length input.mems) (suc t) (memory_after (first_of input) t))
step_more input k t h less is =
    let n = length input.mems in
    let lawful = lawful_input input h.lawful in
    let memory = memory_after (first_of input) t in
    goes_on prefix_turn input (suc t) n memory (memory_after (first_of input) (suc t)) no_queue (two_slot n) 0 [] (passes n (suc t) memory)
    is
    (λ p l. turn_passes input.args (suc t) n memory p (omega arith) l (has_words input k h t p l) (h.before t less))
    (record { some = lawful.some_process; faultless = λ p _. refl; syncs = λ p _. refl; pops = λ p _. refl; pushes = λ p _. refl; tags = λ p _. refl })
    (omega arith) (λ p _. refl)
    (λ d l. next_memory-is n d (passes n (suc t) memory) (memory_after (first_of input) (suc t) d) l refl (length-passed_on (suc t) memory d ∙ sym (length-added_at (suc t) memory d)) (λ a _. passed_written n (suc t) memory d a l (has_words input k h t d l)))

pub state_after : (input : Input) (k : ℕ) → EndsAfter input k → (t : ℕ) → t ≤ k → state_at prefix_turn input (suc t) ≡ described (length input.mems) (memory_after (first_of input) t) no_queue (two_slot (length input.mems)) 0
state_after input k h zero l = (step_zero input k h).state
state_after input k h (suc t) l =
    let e : suc (suc t) ≡ suc t + 1 = omega arith in
    ap (state_at prefix_turn input) e ∙ (step_more input k t h (omega arith) (state_after input k h t (omega arith))).state

delivers : (input : Input) (k : ℕ) → EndsAfter input k → (j : ℕ) → j < suc k → end_in prefix_turn input j ≡ None
delivers input k h zero l = (step_zero input k h).end
delivers input k h (suc t) l = (step_more input k t h (omega arith) (state_after input k h t (omega arith))).end

pub last_step : (input : Input) (k : ℕ) → EndsAfter input k → Halts prefix_turn input (suc k) (length input.mems) (prints_sum (suc k) (memory_after (first_of input) k))
last_step input k h =
    let n = length input.mems in
    let memory = memory_after (first_of input) k in
    halts prefix_turn input (suc k) n memory no_queue (two_slot n) 0 (prints_sum (suc k) memory)
    (state_after input k h k (omega arith))
    (λ p l. turn_prints_sum input.args (suc k) n memory (two_slot n) p (omega arith) (has_words input k h k p l) h.reached)
    (record { some = (lawful_input input h.lawful).some_process; faultless = λ p _. refl; halts = λ p _. refl })

-- The run of prefix sums ends with superstep k + 1.
pub prefix_run : (input : Input) (k : ℕ) → EndsAfter input k → run prefix_turn input ≡ ended_at prefix_turn input (suc k) Halted
prefix_run input k h = run-ended prefix_turn input (suc k) (input.limit - (k + 2)) Halted (omega (arith, h.room)) (delivers input k h) (last_step input k h).end
