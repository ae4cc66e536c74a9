-- What the supersteps of prefix sums cost.
use Rattle.std.proofs.Common.{◌≡◌, ◌≢◌, ◌≤◌, ◌<◌, ◌+◌, ◌-◌, ◌*◌, ◌&&◌, ℕ, zero, suc, Bool, true, false, cond, List, [], ◌∷◌, ◌++◌, map, length, get_or, nat_le, nat_lt, arith, refl, ap, ◌∙◌}
use Rattle.std.specs.Prelude.{min, sum_by}
use Rattle.std.specs.List.{range_with_len}
use Rattle.std.proofs.Math.Nat.{suc-mul, zero-mul}
use Rattle.std.proofs.lemmas.Nat.{pow_pos}
use Rattle.std.proofs.lemmas.Bool.Decides.{nat_tests}
use Rattle.std.proofs.lemmas.List.Sums.{sum_by-append, sum_by-cons}
use Rattle.bsp_model.specs.declared.input.Input.{Input}
use Rattle.bsp_model.specs.declared.cost.CostRow.{CostRow}
use Rattle.bsp_model.specs.declared.request.Put.{Put}
use Rattle.bsp_model.proofs.Inputs.{lawful_input}
use Rattle.bsp_step.specs.OutcomeParts.{OutcomeParts}
use Rattle.bsp_deliver.specs.Requests.{each_below}
use Rattle.bsp_deliver.specs.Cost.{Transfer, put_transfer, largest, h_relation}
use Rattle.bsp_programs.specs.Doubling.{distance}
use Rattle.bsp_run.specs.declared.result.Status.TheVariants.{Halted}
use Rattle.bsp_run.specs.declared.superstep.Superstep.{Superstep}
use Rattle.bsp_run.specs.Law.{outcomes_in}
use Rattle.bsp_run.specs.Result.{largest_work, costs_of, cost_of_delivery, cost_of_end, total_of}
use Rattle.bsp_right.specs.Summed.{prefix_turn, adding_work, doubling_cost, costs_summed}
use Rattle.bsp_right.proofs.Ranges.{map_range-agree}
use Rattle.bsp_right.proofs.RunsFromSupersteps.{superstep_in, ended_at}
use Rattle.bsp_right.proofs.SuperstepCosts.{largest-le, largest-ge, largest_work-none, h_relation-none}
use Rattle.bsp_right.proofs.RequestCosts.{h_relation-is, leaves_process, reaches_process, words_moved, words_of}
use Rattle.bsp_right.proofs.SumsOver.{sum_over, sum_over-one}
use Rattle.bsp_right.proofs.PrefixTurns.{added, passes, prints_sum, registers_two, work_if}
use Rattle.bsp_right.proofs.PrefixSupersteps.{EndsAfter, first_of, memory_after, step_zero, step_more, state_after, last_step}

-- the word that process k passes on
abbrev pub one_word : ℕ → ℕ → Transfer
one_word far k = record { source = k; target = k + far; count = 1 }

none : (b : Bool) (words : ℕ) → cond (b && false) words 0 ≡ 0
none true words = refl
none false words = refl

-- what the put of process q moves
moved : (n s : ℕ) (memory : ℕ → List ℕ) (test : Transfer → Bool) (q : ℕ) → words_moved test (passes n s memory) q ≡ cond (nat_lt (q + distance s) n && test (one_word (distance s) q)) 1 0
moved n s memory test q =
    let x : Put = record { target = q + distance s; start = 1; words = get_or (added s memory q) 0 0 ∷ [] } in
    elim (nat_lt (q + distance s) n) as (λ b. words_of test (map (put_transfer q) (cond b (x ∷ []) [])) + 0 + 0 ≡ cond (b && test (one_word (distance s) q)) 1 0) [
      | true ↦ elim (test (one_word (distance s) q)) as (λ b. sum_by (λ (t : Transfer). t.count) (cond b (one_word (distance s) q ∷ []) []) + 0 + 0 ≡ cond b 1 0) [ true ↦ refl | false ↦ refl ]
      | false ↦ refl
    ]

-- One process alone passes a word on that a test lets pass.
moved_one : (n s : ℕ) (memory : ℕ → List ℕ) (test : Transfer → Bool) (p : ℕ) → p < n → ((q : ℕ) → q ≢ p → test (one_word (distance s) q) ≡ false)
    → sum_over (words_moved test (passes n s memory)) 0 n ≡ cond (nat_lt (p + distance s) n && test (one_word (distance s) p)) 1 0
moved_one n s memory test p l off =
    sum_over-one (words_moved test (passes n s memory)) p n 0 (omega arith) (omega arith) (λ q _ _ apart. moved n s memory test q ∙ (λ i. cond (nat_lt (q + distance s) n && off q apart i) 1 0) ∙ none (nat_lt (q + distance s) n) 1)
    ∙ moved n s memory test p

at_most_one : (b : Bool) → cond b 1 0 ≤ 1
at_most_one true = omega arith
at_most_one false = omega arith

other_source : (far p j : ℕ) → j ≢ p → leaves_process p (one_word far j) ≡ false
other_source far p j h = grind (arith, nat_tests)

other_target : (far p j : ℕ) → j ≢ p - far → reaches_process p (one_word far j) ≡ false
other_target far p j h = let off : j + far ≢ p = λ e. h (omega arith) in grind (arith, nat_tests)

first_sends : (n far : ℕ) → 1 ≤ far → far < n → (nat_lt (0 + far) n && leaves_process 0 (one_word far 0)) ≡ true
first_sends n far h l = grind (arith, nat_tests)

-- No process sends or receives more than one word, and process 0 sends one.
h_relation-passes : (n s : ℕ) (memory : ℕ → List ℕ) → distance s < n → h_relation (each_below n (passes n s memory)) ≡ 1
h_relation-passes n s memory l =
    let far = distance s in
    let some : 1 ≤ far = pow_pos (min s 8 - 1) in
    h_relation-is n 1 0 (passes n s memory) (omega arith)
    (λ p m. omega (arith, moved_one n s memory (leaves_process p) p m (λ q apart. other_source far p q apart), at_most_one (nat_lt (p + far) n && leaves_process p (one_word far p))))
    (λ p m. omega (arith, moved_one n s memory (reaches_process p) (p - far) (omega arith) (λ q apart. other_target far p q apart), at_most_one (nat_lt (p - far + far) n && reaches_process p (one_word far (p - far)))))
    (moved_one n s memory (leaves_process 0) 0 (omega arith) (λ q apart. other_source far 0 q apart) ∙ ap (λ b. cond b 1 0) (first_sends n far some l))

-- Work is done by those to which a word came.
works_if : (late : Bool) (n s : ℕ) (out : ℕ → OutcomeParts) → nat_le 2 s ≡ late → 1 ≤ n → (2 ≤ s → distance (s - 1) < n) → ((p : ℕ) → p < n → (out p).work ≡ work_if (late && nat_le (distance (s - 1)) p)) → largest_work (each_below n out) ≡ cond late 1 0
works_if false n s out e some near h = largest_work-none n out h
works_if true n s out e some near h =
    let second : 2 ≤ s = grind (arith, nat_tests) in
    let far : distance (s - 1) < n = near second in
    let work : ℕ → ℕ = λ p. work_if (nat_le (distance (s - 1)) p) in
    let works : map (λ (o : OutcomeParts). o.work) (each_below n out) ≡ map work (range_with_len 0 n) = map_range-agree (λ (o : OutcomeParts). o.work) out work n 0 (λ p _ m. h p (omega arith)) in
    let most : largest (map work (range_with_len 0 n)) ≤ 1 = largest-le 1 work n 0 (λ p _ _. elim (nat_le (distance (s - 1)) p) as (λ b. work_if b ≤ 1) [ true ↦ omega arith | false ↦ omega arith ]) in
    let reached : nat_le (distance (s - 1)) (n - 1) ≡ true = grind (arith, nat_tests) in
    let last : work (n - 1) ≡ 1 = ap work_if reached in
    let some_work : work (n - 1) ≤ largest (map work (range_with_len 0 n)) = largest-ge (n - 1) work n 0 (omega arith) (omega arith) in
    ap largest works ∙ omega arith

near_before : (input : Input) (k t : ℕ) → EndsAfter input k → t ≤ k → 2 ≤ suc t → distance (suc t - 1) < length input.mems
near_before input k zero h l m = absurd (omega arith)
near_before input k (suc t) h l m = let e : suc (suc t) - 1 ≡ suc t = omega arith in let near : distance (suc t) < length input.mems = h.before t (omega arith) in let same : distance (suc (suc t) - 1) ≡ distance (suc t) = ap distance e in omega arith

some_process : (input : Input) (k : ℕ) → EndsAfter input k → 1 ≤ length input.mems
some_process input k h = (lawful_input input h.lawful).some_process

row : ℕ → ℕ → ℕ → ℕ → CostRow
row g l w h = record { work = w; h = h; cost = w + h * g + l }

cost_one : (w g l : ℕ) → w + 1 * g + l ≡ w + g + l
cost_one w g l = omega arith

cost_none : (g l : ℕ) → 0 + 0 * g + l ≡ l
cost_none g l = omega arith

-- the row of a superstep that doubles
row_at : (input : Input) (k : ℕ) → EndsAfter input k → (j : ℕ) → 1 ≤ j → j < k + 1 → cost_of_delivery input.g input.l (outcomes_in prefix_turn input j) ≡ doubling_cost input.g input.l j
unfolding row
row_at input k h zero some l = absurd (omega arith)
row_at input k h (suc t) some l =
    let n = length input.mems in
    let memory = memory_after (first_of input) t in
    let step = step_more input k t h (omega arith) (state_after input k h t (omega arith)) in
    let w : largest_work (each_below n (passes n (suc t) memory)) ≡ adding_work (suc t) = works_if (nat_le 2 (suc t)) n (suc t) (passes n (suc t) memory) refl (some_process input k h) (near_before input k t h (omega arith)) (λ p _. refl) in
    let hr : h_relation (each_below n (passes n (suc t) memory)) ≡ 1 = h_relation-passes n (suc t) memory (h.before t (omega arith)) in
    ap (cost_of_delivery input.g input.l) step.outcomes
    ∙ (λ i. row input.g input.l (w i) (hr i))
    ∙ ap (λ c. record { work = adding_work (suc t); h = 1; cost = c }) (cost_one (adding_work (suc t)) input.g input.l)

pub costs_are_summed : (input : Input) (k : ℕ) → EndsAfter input k → costs_of (ended_at prefix_turn input (suc k) Halted) ≡ costs_summed k input.g input.l
unfolding costs_of row
costs_are_summed input k h =
    let n = length input.mems in
    let first = step_zero input k h in
    let w0 = largest_work-none n (registers_two (first_of input)) (λ p _. refl) in
    let h0 = h_relation-none n (registers_two (first_of input)) (record { puts = λ p _. refl; gets = λ p _. refl; sends = λ p _. refl }) in
    let one : suc k ≡ k + 1 = omega arith in
    let w : largest_work (each_below n (prints_sum (suc k) (memory_after (first_of input) k))) ≡ adding_work (k + 1) = works_if (nat_le 2 (suc k)) n (suc k) (prints_sum (suc k) (memory_after (first_of input) k)) refl (some_process input k h) (near_before input k k h (omega arith)) (λ p _. refl) ∙ ap adding_work one in
    let end : cost_of_end (outcomes_in prefix_turn input (suc k)) ≡ record { work = adding_work (k + 1); h = 0; cost = adding_work (k + 1) } = ap cost_of_end (last_step input k h).outcomes ∙ ap (λ v. record { work = v; h = 0; cost = v }) w in
    let zeroth : cost_of_delivery input.g input.l (outcomes_in prefix_turn input 0) ≡ record { work = 0; h = 0; cost = input.l } =
    ap (cost_of_delivery input.g input.l) first.outcomes ∙ (λ i. row input.g input.l (w0 i) (h0 i)) ∙ ap (λ c. record { work = 0; h = 0; cost = c }) (cost_none input.g input.l) in
    let past : map (λ (s : Superstep). s.outcomes) (map (superstep_in prefix_turn input) (range_with_len 1 k)) ≡ map (outcomes_in prefix_turn input) (range_with_len 1 k) = map_range-agree (λ (s : Superstep). s.outcomes) (superstep_in prefix_turn input) (outcomes_in prefix_turn input) k 1 (λ p _ _. refl) in
    let doubled : map (cost_of_delivery input.g input.l) (map (λ (s : Superstep). s.outcomes) (map (superstep_in prefix_turn input) (range_with_len 1 k))) ≡ map (doubling_cost input.g input.l) (range_with_len 1 k) =
    ap (map (cost_of_delivery input.g input.l)) past ∙ map_range-agree (cost_of_delivery input.g input.l) (outcomes_in prefix_turn input) (doubling_cost input.g input.l) k 1 (λ j m l. row_at input k h j m (omega arith)) in
    λ i. zeroth i ∷ doubled i ++ end i ∷ []

-- doublings from the second on cost the same
total_doubled : (g l m a : ℕ) → 2 ≤ a → sum_by (λ (c : CostRow). c.cost) (map (doubling_cost g l) (range_with_len a m)) ≡ m * (g + l + 1)
total_doubled g l zero a h = let e = zero-mul (g + l + 1) in omega (arith, e)
total_doubled g l (suc m) a h =
    let late : nat_le 2 a ≡ true = grind (arith, nat_tests) in
    let work : adding_work a ≡ 1 = ap (λ b. cond b 1 0) late in
    omega (arith, sum_by-cons (λ (c : CostRow). c.cost) (doubling_cost g l a) (map (doubling_cost g l) (range_with_len (a + 1) m)), work, total_doubled g l m (a + 1) (omega arith), suc-mul m (g + l + 1))

pub total_summed : (k g l : ℕ) → total_of (costs_summed k g l) ≡ k * (g + l + 1) + l
total_summed zero g l = let e = zero-mul (g + l + 1) in omega (arith, e)
total_summed (suc k) g l =
    let rows = map (doubling_cost g l) (range_with_len 2 k) in
    let late : nat_le 2 (suc k + 1) ≡ true = grind (arith, nat_tests) in
    let work : adding_work (suc k + 1) ≡ 1 = ap (λ b. cond b 1 0) late in
    let last : CostRow = record { work = adding_work (suc k + 1); h = 0; cost = adding_work (suc k + 1) } in
    let first : CostRow = record { work = 0; h = 0; cost = l } in
    let second : CostRow = doubling_cost g l 1 in
    omega (arith, sum_by-cons (λ (c : CostRow). c.cost) first (second ∷ rows ++ last ∷ []), sum_by-cons (λ (c : CostRow). c.cost) second (rows ++ last ∷ []), sum_by-append (λ (c : CostRow). c.cost) rows (last ∷ []), sum_by-cons (λ (c : CostRow). c.cost) last [], work, total_doubled g l k 2 (omega arith), suc-mul k (g + l + 1))
