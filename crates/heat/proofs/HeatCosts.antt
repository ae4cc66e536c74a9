-- What the supersteps of heat in a rod cost.
use Rattle.std.proofs.Common.{◌≡◌, ◌≤◌, ◌<◌, ◌+◌, ◌-◌, ◌*◌, ◌++◌, ◌∙◌, ℕ, zero, suc, true, cond, List, [], ◌∷◌, map, length, nat_le, arith, ap, refl, sym}
use Rattle.std.specs.Prelude.{sum_by}
use Rattle.std.specs.List.{range_with_len}
use Rattle.std.proofs.Math.Nat.{suc-mul, zero-mul}
use Rattle.std.proofs.lemmas.Bool.{le-leb}
use Rattle.std.proofs.lemmas.List.FromFn.{fill_by_all}
use Rattle.std.proofs.lemmas.List.Sums.{sum_by-append, sum_by-cons}
use Rattle.bsp_model.specs.declared.cost.CostRow.{CostRow}
use Rattle.bsp_model.specs.declared.input.Input.{Input}
use Rattle.bsp_step.specs.OutcomeParts.{OutcomeParts}
use Rattle.bsp_deliver.specs.Cost.{h_relation, largest}
use Rattle.bsp_deliver.specs.Requests.{each_below}
use Rattle.bsp_run.specs.declared.result.Status.TheVariants.{Halted}
use Rattle.bsp_run.specs.Law.{outcomes_in}
use Rattle.bsp_run.specs.Result.{cost_of_delivery, cost_of_end, costs_of, largest_work, total_of}
use Rattle.bsp_right.proofs.EndedRuns.{costs-ended}
use Rattle.bsp_right.proofs.Ranges.{map_range-agree, range-agree}
use Rattle.bsp_right.proofs.RowPuts.{h_relation-row}
use Rattle.bsp_right.proofs.RunsFromSupersteps.{ended_at}
use Rattle.bsp_right.proofs.SuperstepCosts.{h_relation-none, largest_work-none}
use Rattle.heat.specs.Rod.{IsRodInput, costs_advanced, heat_turn, most_cells, neighbours, step_cost, step_work}
use Rattle.heat.proofs.CellsPut.{first_address, first_cell, last_address, last_cell}
use Rattle.heat.proofs.HeatTurns.{registers}
use Rattle.heat.proofs.HeatSupersteps.{dealt_input, first_of, last_step, length-seen, memory_left, printed, step_at, step_zero, told, work_left}

-- the works of a time step
works_left : (input : Input) (steps t : ℕ) → IsRodInput input steps → map (λ p. work_left input (suc t) p) (range_with_len 0 (length input.mems)) ≡ map (λ memory. length memory - 2) input.mems
works_left input steps t h =
    let n = length input.mems in
    let cells : List ℕ → ℕ = λ memory. length memory - 2 in
    range-agree (λ p. work_left input (suc t) p) (λ p. cells (first_of input p)) n 0 (λ p _ m. ap (λ k. k - 2) (length-seen input steps h (suc t) p (omega arith)))
    ∙ sym (ap (map cells) (fill_by_all (first_of input) input.mems n [] refl (λ k _. refl)) ∙ map_range-agree cells (first_of input) (λ p. cells (first_of input p)) n 0 (λ p _ _. refl))

work_of_step : (input : Input) (steps t : ℕ) (out : ℕ → OutcomeParts) → IsRodInput input steps → ((p : ℕ) → (out p).work ≡ work_left input t p) → largest_work (each_below (length input.mems) out) ≡ step_work input.mems (suc t)
work_of_step input steps zero out h is = largest_work-none (length input.mems) out (λ p _. is p)
work_of_step input steps (suc t) out h is =
    let late : nat_le 2 (suc (suc t)) ≡ true = le-leb 2 (suc (suc t)) (omega arith) in
    ap largest (map_range-agree (λ (o : OutcomeParts). o.work) out (λ p. work_left input (suc t) p) (length input.mems) 0 (λ p _ _. is p) ∙ works_left input steps t h)
    ∙ ap (λ b. cond b (most_cells input.mems) 0) (sym late)

row : ℕ → ℕ → ℕ → ℕ → CostRow
row g l w h = record { work = w; h = h; cost = w + h * g + l }

cost_none : (g l : ℕ) → 0 + 0 * g + l ≡ l
cost_none g l = omega arith

-- the row of each superstep that ends by delivery
row_of : Input → ℕ → CostRow
row_of input zero = record { work = 0; h = 0; cost = input.l }
row_of input (suc t) = step_cost input (suc t)

is_row : (input : Input) (steps : ℕ) → IsRodInput input steps → (s : ℕ) → s < suc steps → cost_of_delivery input.g input.l (outcomes_in heat_turn input s) ≡ row_of input s
unfolding row row_of
is_row input steps h zero l =
    let n = length input.mems in
    let work = largest_work-none n (registers (first_of input)) (λ p _. refl) in
    let words = h_relation-none n (registers (first_of input)) (record { puts = λ p _. refl; gets = λ p _. refl; sends = λ p _. refl }) in
    ap (cost_of_delivery input.g input.l) (step_zero input steps h).outcomes
    ∙ (λ i. row input.g input.l (work i) (words i))
    ∙ ap (λ c. record { work = 0; h = 0; cost = c }) (cost_none input.g input.l)
is_row input steps h (suc t) l =
    let n = length input.mems in
    let out : ℕ → OutcomeParts = told input t in
    let work : largest_work (each_below n out) ≡ step_work input.mems (suc t) = work_of_step input steps t out h (λ p. refl) in
    let words : h_relation (each_below n out) ≡ neighbours input.mems =
    h_relation-row n first_address (last_address input.mems) (λ p. first_cell (memory_left input t p)) (λ p. last_cell (memory_left input t p)) out (dealt_input input steps h).some (record { puts = λ p _. refl }) (λ p _. refl) (λ p _. refl) in
    ap (cost_of_delivery input.g input.l) (step_at input steps t h (omega arith)).outcomes ∙ (λ i. row input.g input.l (work i) (words i))

is_step_cost : (input : Input) (s : ℕ) → 1 ≤ s → row_of input s ≡ step_cost input s
unfolding row_of
is_step_cost input zero l = absurd (omega arith)
is_step_cost input (suc t) l = refl

pub costs_are_advanced : (input : Input) (steps : ℕ) → IsRodInput input steps → costs_of (ended_at heat_turn input (suc steps) Halted) ≡ costs_advanced input steps
unfolding row_of
costs_are_advanced input steps h =
    let n = length input.mems in
    let one : suc steps ≡ steps + 1 = omega arith in
    let last : CostRow = record { work = step_work input.mems (steps + 1); h = 0; cost = step_work input.mems (steps + 1) } in
    let work : largest_work (each_below n (printed input steps)) ≡ step_work input.mems (steps + 1) = work_of_step input steps steps (printed input steps) h (λ p. refl) ∙ ap (step_work input.mems) one in
    let end : cost_of_end (outcomes_in heat_turn input (suc steps)) ≡ last = ap cost_of_end (last_step input steps h).outcomes ∙ ap (λ w. record { work = w; h = 0; cost = w }) work in
    costs-ended heat_turn input (suc steps) (row_of input) last (is_row input steps h) end
    ∙ ap (λ (rows : List CostRow). row_of input 0 ∷ rows ++ last ∷ []) (range-agree (row_of input) (step_cost input) steps 1 (λ s some _. is_step_cost input s some))

-- time steps from superstep a on cost the same
total_later : (input : Input) (m a : ℕ) → 2 ≤ a → sum_by (λ (c : CostRow). c.cost) (map (step_cost input) (range_with_len a m)) ≡ m * (neighbours input.mems * input.g + input.l + most_cells input.mems)
total_later input zero a h = let e = zero-mul (neighbours input.mems * input.g + input.l + most_cells input.mems) in omega (arith, e)
total_later input (suc m) a h =
    let each : ℕ = neighbours input.mems * input.g + input.l + most_cells input.mems in
    let work : step_work input.mems a ≡ most_cells input.mems = ap (λ b. cond b (most_cells input.mems) 0) (le-leb 2 a h) in
    omega (arith, sum_by-cons (λ (c : CostRow). c.cost) (step_cost input a) (map (step_cost input) (range_with_len (a + 1) m)), work, total_later input m (a + 1) (omega arith), suc-mul m each)

pub total_advanced : (input : Input) (steps : ℕ) → total_of (costs_advanced input steps) ≡ steps * (neighbours input.mems * input.g + input.l + most_cells input.mems) + input.l
total_advanced input zero = let e = zero-mul (neighbours input.mems * input.g + input.l + most_cells input.mems) in omega (arith, e)
total_advanced input (suc k) =
    let each : ℕ = neighbours input.mems * input.g + input.l + most_cells input.mems in
    let rows : List CostRow = map (step_cost input) (range_with_len 2 k) in
    let work : step_work input.mems (suc k + 1) ≡ most_cells input.mems = ap (λ b. cond b (most_cells input.mems) 0) (le-leb 2 (suc k + 1) (omega arith)) in
    let first : CostRow = record { work = 0; h = 0; cost = input.l } in
    let second : CostRow = step_cost input 1 in
    let last : CostRow = record { work = step_work input.mems (suc k + 1); h = 0; cost = step_work input.mems (suc k + 1) } in
    omega (arith, sum_by-cons (λ (c : CostRow). c.cost) first (second ∷ rows ++ last ∷ []), sum_by-cons (λ (c : CostRow). c.cost) second (rows ++ last ∷ []), sum_by-append (λ (c : CostRow). c.cost) rows (last ∷ []), sum_by-cons (λ (c : CostRow). c.cost) last [], work, total_later input k 2 (omega arith), suc-mul k each)
