-- What the supersteps of list ranking cost.
use Rattle.std.proofs.Common.{◌&&◌, ◌*◌, ◌+◌, ◌++◌, ◌-◌, ◌<◌, ◌==◌, Bool, [], ◌^◌, ap, arith, cond, false, inl, inr, length, map, nat_le, not, refl, suc, sym, true, zero, ℕ, ◌∙◌, ◌∷◌, ◌≡◌, ◌≢◌, ◌≤◌}
use Rattle.std.specs.Prelude.{sum_by}
use Rattle.std.specs.List.{range_with_len}
use Rattle.std.proofs.lemmas.Bool.{cases_eq, cases_lt, eq-eqb, ne_eqb}
use Rattle.std.proofs.lemmas.Bool.Decides.{nat_tests}
use Rattle.std.proofs.lemmas.List.Sums.{sum_by-append, sum_by-cons}
use Rattle.std.proofs.lemmas.Nat.{pow_pos}
use Rattle.bsp_model.specs.declared.cost.CostRow.{CostRow}
use Rattle.bsp_model.specs.declared.input.Input.{Input}
use Rattle.bsp_model.proofs.Inputs.{lawful_input}
use Rattle.bsp_deliver.specs.Cost.{Transfer, h_relation}
use Rattle.bsp_deliver.specs.Requests.{each_below}
use Rattle.bsp_run.specs.declared.result.Status.TheVariants.{Halted}
use Rattle.bsp_run.specs.declared.superstep.Superstep.{Superstep}
use Rattle.bsp_run.specs.Law.{outcomes_in}
use Rattle.bsp_run.specs.Result.{cost_of_delivery, cost_of_end, costs_of, largest_work, total_of}
use Rattle.bsp_right.specs.Orders.{IsOrder}
use Rattle.bsp_right.specs.Ranked.{IsListInput, costs_ranked, jumping_cost, rank_turn}
use Rattle.bsp_right.specs.Summed.{adding_work}
use Rattle.bsp_right.proofs.Permutations.{sum_over-ordered}
use Rattle.bsp_right.proofs.Ranges.{map_range-agree}
use Rattle.bsp_right.proofs.RankSupersteps.{first_of, last_step, list_of, state_after, step_more, step_zero}
use Rattle.bsp_right.proofs.RankTurns.{Linked, asks, double, onward, prints_rank, registers_pair, work_at}
use Rattle.bsp_right.proofs.RankWords.{onward-below, onward-successors}
use Rattle.bsp_right.proofs.RequestCosts.{h_relation-is, leaves_process, reaches_process, words_moved}
use Rattle.bsp_right.proofs.RunsFromSupersteps.{ended_at, superstep_in}
use Rattle.bsp_right.proofs.SumsOver.{sum_over, sum_over-agree, sum_over-none, sum_over-one, sum_over-others, sum_over-split}
use Rattle.bsp_right.proofs.SuperstepCosts.{h_relation-none, largest_work-none, largest_work-same}

-- what the get of process q moves, from an element that is so far on
abbrev pub answer : Linked → ℕ → ℕ → Transfer
answer list t q = record { source = onward list (2 ^ t) q; target = q; count = 2 }

moved : (list : Linked) (t : ℕ) (test : Transfer → Bool) (q : ℕ) → words_moved test (asks list t) q ≡ cond (test (answer list t q)) 2 0
moved list t test q =
    elim (test (answer list t q)) as (λ b. 0 + sum_by (λ (x : Transfer). x.count) (cond b (answer list t q ∷ []) []) + 0 ≡ cond b 2 0) [ true ↦ refl | false ↦ refl ]

-- whether the element with d successors asks the one with e
abbrev pub asked_by : ℕ → ℕ → ℕ → ℕ
asked_by far e d = cond (((d - far) == e) && not (d == e)) 2 0

-- two processes are one where their places are
same_places : (n : ℕ) (list : Linked) → IsOrder n list.element list.successors → (p q : ℕ) → p < n → q < n → (p == q) ≡ (list.successors p == list.successors q)
same_places n list order p q l m =
    elim (cases_eq p q) [
      | inl same ↦ eq-eqb p q same ∙ sym (eq-eqb (list.successors p) (list.successors q) (ap list.successors same))
      | inr apart ↦ ne_eqb p q apart ∙ sym (ne_eqb (list.successors p) (list.successors q) (λ e. apart (sym (order.places p l).1 ∙ ap list.element e ∙ (order.places q m).1)))
    ]

-- An element is asked by those so far before it.
asked_as : (n : ℕ) (list : Linked) → IsOrder n list.element list.successors → (t p q : ℕ) → p < n → q < n → words_moved (leaves_process p) (asks list t) q ≡ asked_by (2 ^ t) (list.successors p) (list.successors q)
asked_as n list order t p q l m =
    let d = list.successors q in
    let e = list.successors p in
    let owner = onward list (2 ^ t) q in
    let left : list.successors owner ≡ d - 2 ^ t = onward-successors n list order (2 ^ t) q m in
    let there : owner < n = onward-below n list order (2 ^ t) q m in
    let source : (owner == p) ≡ ((d - 2 ^ t) == e) = same_places n list order owner p there l ∙ ap (λ x. x == e) left in
    let target : (q == p) ≡ (d == e) = same_places n list order q p m l in
    moved list t (leaves_process p) q ∙ (λ i. cond (source i && not (target i)) 2 0)

-- the elements before the last ask it
asked_last : (far n : ℕ) → far < n → sum_over (asked_by far 0) 0 n ≡ 2 * far
asked_last far n l =
    let f = asked_by far 0 in
    let one : far + 1 + (n - far - 1) ≡ n = omega arith in
    let near : sum_over f 0 (far + 1) ≡ (far + 1 - 1) * 2 =
    sum_over-others f 2 0 (far + 1) 0 (omega arith) (omega arith)
    (let off : (((0 - far) == 0) && not (0 == 0)) ≡ false = grind (arith, nat_tests) in ap (λ b. cond b 2 0) off)
    (λ d _ m apart. (let on : (((d - far) == 0) && not (d == 0)) ≡ true = grind (arith, nat_tests) in ap (λ b. cond b 2 0) on)) in
    let away : sum_over f (0 + (far + 1)) (n - far - 1) ≡ 0 =
    sum_over-none f (n - far - 1) (0 + (far + 1)) (λ d m _. (let off : (((d - far) == 0) && not (d == 0)) ≡ false = grind (arith, nat_tests) in ap (λ b. cond b 2 0) off)) in
    ap (sum_over f 0) (sym one) ∙ sum_over-split f (far + 1) (n - far - 1) 0 ∙ omega arith

-- one element at most asks each other
asked_other : (far e n : ℕ) → 1 ≤ far → 1 ≤ e → sum_over (asked_by far e) 0 n ≤ 2
asked_other far e n some more =
    let f = asked_by far e in
    let most : (d : ℕ) → f d ≤ 2 = λ d. elim (((d - far) == e) && not (d == e)) as (λ b. cond b 2 0 ≤ 2) [ true ↦ omega arith | false ↦ omega arith ] in
    let off : (d : ℕ) → d ≢ e + far → f d ≡ 0 = λ d apart. (let no : (((d - far) == e) && not (d == e)) ≡ false = grind (arith, nat_tests) in ap (λ b. cond b 2 0) no) in
    elim (cases_lt (e + far) n) [
      | inl there ↦ omega (arith, sum_over-one f (e + far) n 0 (omega arith) (omega arith) (λ d _ _ apart. off d apart), most (e + far))
      | inr past ↦ omega (arith, sum_over-none f n 0 (λ d _ m. off d (λ same. omega (arith, same))))
    ]

asked_at_most : (far e n : ℕ) → 1 ≤ far → far < n → sum_over (asked_by far e) 0 n ≤ 2 * far
asked_at_most far zero n some l = omega (arith, asked_last far n l)
asked_at_most far (suc e) n some l = omega (arith, asked_other far (suc e) n some (omega arith))

sent : (n : ℕ) (list : Linked) → IsOrder n list.element list.successors → (t p : ℕ) → p < n → sum_over (words_moved (leaves_process p) (asks list t)) 0 n ≡ sum_over (asked_by (2 ^ t) (list.successors p)) 0 n
sent n list order t p l =
    sum_over-agree (words_moved (leaves_process p) (asks list t)) (λ q. asked_by (2 ^ t) (list.successors p) (list.successors q)) n 0 (λ q _ m. asked_as n list order t p q l (omega arith))
    ∙ sum_over-ordered n list.element list.successors order (asked_by (2 ^ t) (list.successors p))

received : (n : ℕ) (list : Linked) (t p : ℕ) → p < n → sum_over (words_moved (reaches_process p) (asks list t)) 0 n ≤ 2
received n list t p l =
    let words = words_moved (reaches_process p) (asks list t) in
    let own : words p ≡ cond (reaches_process p (answer list t p)) 2 0 = moved list t (reaches_process p) p in
    let most : cond (reaches_process p (answer list t p)) 2 0 ≤ 2 = elim (reaches_process p (answer list t p)) as (λ b. cond b 2 0 ≤ 2) [ true ↦ omega arith | false ↦ omega arith ] in
    omega (
      arith,
      sum_over-one words p n 0 (omega arith) (omega arith) (λ q _ _ apart.
          moved list t (reaches_process p) q ∙ (let off : reaches_process p (answer list t q) ≡ false = grind (arith, nat_tests) in ap (λ b. cond b 2 0) off)),
    )

-- The h-relation of a superstep in which all ask.
h_relation-asks : (n : ℕ) (list : Linked) → IsOrder n list.element list.successors → (t : ℕ) → 2 ^ t < n → h_relation (each_below n (asks list t)) ≡ 2 ^ suc t
h_relation-asks n list order t l =
    let far = 2 ^ t in
    let some : 1 ≤ far = pow_pos t in
    let twice : 2 ^ suc t ≡ 2 * far = omega (arith, double t) in
    let last = order.elements 0 (omega arith) in
    h_relation-is n (2 ^ suc t) (list.element 0) (asks list t) last.0
    (λ p m. omega (arith, sent n list order t p m, asked_at_most far (list.successors p) n some l))
    (λ p m. omega (arith, received n list t p m))
    (sent n list order t (list.element 0) last.0 ∙ ap (λ e. sum_over (asked_by far e) 0 n) last.1 ∙ asked_last far n l ∙ sym twice)

work-is : (t : ℕ) → adding_work (suc t) ≡ work_at t
work-is zero = refl
work-is (suc t) = let late : nat_le 2 (suc (suc t)) ≡ true = grind (arith, nat_tests) in ap (λ b. cond b 1 0) late

row : ℕ → ℕ → ℕ → ℕ → CostRow
row g l w h = record { work = w; h = h; cost = w + h * g + l }

cost_none : (g l : ℕ) → 0 + 0 * g + l ≡ l
cost_none g l = omega arith

module _ (input : Input) (element successors : ℕ → ℕ) (k : ℕ) (h : IsListInput input element successors k) where
  -- the row of a superstep in which all ask
  row_at : (j : ℕ) → 1 ≤ j → j < k + 1 → cost_of_delivery input.g input.l (outcomes_in rank_turn input j) ≡ jumping_cost input.g input.l j
  unfolding row
  row_at zero some l = absurd (omega arith)
  row_at (suc t) some l =
      let n = length input.mems in
      let list = list_of input element successors in
      let step = step_more input element successors k h t (omega arith) (state_after input element successors k h t (omega arith)) in
      let w : largest_work (each_below n (asks list t)) ≡ adding_work (suc t) = largest_work-same n (adding_work (suc t)) (asks list t) (lawful_input input h.lawful).some_process (λ p _. sym (work-is t)) in
      let hr : h_relation (each_below n (asks list t)) ≡ 2 ^ suc t = h_relation-asks n list h.order t (h.least t (omega arith)) in
      ap (cost_of_delivery input.g input.l) step.outcomes ∙ (λ i. row input.g input.l (w i) (hr i))

  pub costs_are_ranked : costs_of (ended_at rank_turn input (suc k) Halted) ≡ costs_ranked k input.g input.l
  unfolding costs_of row
  costs_are_ranked =
      let n = length input.mems in
      let list = list_of input element successors in
      let first = step_zero input element successors k h in
      let w0 = largest_work-none n (registers_pair (first_of input)) (λ p _. refl) in
      let h0 = h_relation-none n (registers_pair (first_of input)) (record { puts = λ p _. refl; gets = λ p _. refl; sends = λ p _. refl }) in
      let one : suc k ≡ k + 1 = omega arith in
      let w : largest_work (each_below n (prints_rank list k)) ≡ adding_work (k + 1) = largest_work-same n (adding_work (suc k)) (prints_rank list k) (lawful_input input h.lawful).some_process (λ p _. sym (work-is k)) ∙ ap adding_work one in
      let end : cost_of_end (outcomes_in rank_turn input (suc k)) ≡ record { work = adding_work (k + 1); h = 0; cost = adding_work (k + 1) } = ap cost_of_end (last_step input element successors k h).outcomes ∙ ap (λ v. record { work = v; h = 0; cost = v }) w in
      let zeroth : cost_of_delivery input.g input.l (outcomes_in rank_turn input 0) ≡ record { work = 0; h = 0; cost = input.l } =
      ap (cost_of_delivery input.g input.l) first.outcomes ∙ (λ i. row input.g input.l (w0 i) (h0 i)) ∙ ap (λ c. record { work = 0; h = 0; cost = c }) (cost_none input.g input.l) in
      let past : map (λ (s : Superstep). s.outcomes) (map (superstep_in rank_turn input) (range_with_len 1 k)) ≡ map (outcomes_in rank_turn input) (range_with_len 1 k) = map_range-agree (λ (s : Superstep). s.outcomes) (superstep_in rank_turn input) (outcomes_in rank_turn input) k 1 (λ p _ _. refl) in
      let jumped : map (cost_of_delivery input.g input.l) (map (λ (s : Superstep). s.outcomes) (map (superstep_in rank_turn input) (range_with_len 1 k))) ≡ map (jumping_cost input.g input.l) (range_with_len 1 k) =
      ap (map (cost_of_delivery input.g input.l)) past ∙ map_range-agree (cost_of_delivery input.g input.l) (outcomes_in rank_turn input) (jumping_cost input.g input.l) k 1 (λ j m l. row_at j m (omega arith)) in
      λ i. zeroth i ∷ jumped i ++ end i ∷ []

-- jumps from the second on: each costs twice the words of the one before
total_jumped : (g l m a : ℕ) → 2 ≤ a → sum_by (λ (c : CostRow). c.cost) (map (jumping_cost g l) (range_with_len a m)) + 2 ^ a * g ≡ 2 ^ (a + m) * g + m * (l + 1)
total_jumped g l zero a h =
    let same : 2 ^ (a + zero) * g ≡ 2 ^ a * g = ap (λ x. 2 ^ x * g) (let e : a + zero ≡ a = omega arith in e) in
    omega arith
total_jumped g l (suc m) a h =
    let late : nat_le 2 a ≡ true = grind (arith, nat_tests) in
    let work : adding_work a ≡ 1 = ap (λ b. cond b 1 0) late in
    let next : 2 ^ (a + 1) * g ≡ 2 ^ a * g + 2 ^ a * g = (let e : a + 1 ≡ suc a = omega arith in ap (λ x. 2 ^ x * g) e ∙ ap (λ x. x * g) (double a) ∙ omega arith) in
    let last : 2 ^ (a + suc m) * g ≡ 2 ^ (a + 1 + m) * g = ap (λ x. 2 ^ x * g) (let e : a + suc m ≡ a + 1 + m = omega arith in e) in
    omega (arith, sum_by-cons (λ (c : CostRow). c.cost) (jumping_cost g l a) (map (jumping_cost g l) (range_with_len (a + 1) m)), work, total_jumped g l m (a + 1) (omega arith))

pub total_ranked : (k g l : ℕ) → total_of (costs_ranked k g l) ≡ (2 ^ (k + 1) - 2) * g + (k + 1) * l + k
total_ranked zero g l = omega arith
total_ranked (suc k) g l =
    let rows = map (jumping_cost g l) (range_with_len 2 k) in
    let late : nat_le 2 (suc k + 1) ≡ true = grind (arith, nat_tests) in
    let work : adding_work (suc k + 1) ≡ 1 = ap (λ b. cond b 1 0) late in
    let last : CostRow = record { work = adding_work (suc k + 1); h = 0; cost = adding_work (suc k + 1) } in
    let first : CostRow = record { work = 0; h = 0; cost = l } in
    let second : CostRow = jumping_cost g l 1 in
    let words : 2 ^ (2 + k) * g ≡ 2 ^ (suc k + 1) * g = ap (λ x. 2 ^ x * g) (let e : 2 + k ≡ suc k + 1 = omega arith in e) in
    let less : (2 ^ (suc k + 1) - 2) * g + 2 * g ≡ 2 ^ (suc k + 1) * g = (let most : 2 ≤ 2 ^ (suc k + 1) = (let e : 2 ^ (suc k + 1) ≡ 2 ^ suc (suc k) = ap (λ x. 2 ^ x) (let f : suc k + 1 ≡ suc (suc k) = omega arith in f) in omega (arith, double (suc k), pow_pos (suc k))) in let whole : 2 ^ (suc k + 1) - 2 + 2 ≡ 2 ^ (suc k + 1) = omega arith in let e : (2 ^ (suc k + 1) - 2 + 2) * g ≡ 2 ^ (suc k + 1) * g = ap (λ x. x * g) whole in omega arith) in
    omega (arith, sum_by-cons (λ (c : CostRow). c.cost) first (second ∷ rows ++ last ∷ []), sum_by-cons (λ (c : CostRow). c.cost) second (rows ++ last ∷ []), sum_by-append (λ (c : CostRow). c.cost) rows (last ∷ []), sum_by-cons (λ (c : CostRow). c.cost) last [], work, total_jumped g l k 2 (omega arith))
