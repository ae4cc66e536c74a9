-- What a run gives that superstep k ended by halt, from what its supersteps are.
use Rattle.std.proofs.Common.{◌≡◌, ◌<◌, ◌++◌, ◌∙◌, ℕ, List, [], ◌∷◌, map, length, arith, ap, refl}
use Rattle.std.specs.List.{range_with_len}
use Rattle.std.proofs.lemmas.List.{append-nil, map-append}
use Rattle.bsp_model.specs.declared.cost.CostRow.{CostRow}
use Rattle.bsp_model.specs.declared.input.Input.{Input}
use Rattle.bsp_step.specs.OutcomeParts.{OutcomeParts, outcome_of}
use Rattle.bsp_step.specs.ViewParts.{ViewParts}
use Rattle.bsp_deliver.specs.Requests.{each_below}
use Rattle.bsp_run.specs.declared.result.Status.TheVariants.{Halted}
use Rattle.bsp_run.specs.declared.superstep.Superstep.{Superstep}
use Rattle.bsp_run.specs.Supersteps.{outcomes_of, open_superstep, supersteps_of}
use Rattle.bsp_run.specs.Law.{outcomes_in}
use Rattle.bsp_run.specs.Result.{cost_of_delivery, cost_of_end, costs_of, lines_of, lines_of_process, memories_of}
use Rattle.bsp_run.proofs.Records.{count-state_at}
use Rattle.bsp_right.proofs.Ranges.{flat_map-none, map_range-agree, range-agree}
use Rattle.bsp_right.proofs.RunsFromSupersteps.{ended_at, superstep_in}

outcomes-past : (turn : ViewParts → OutcomeParts) (input : Input) (k : ℕ) → map (λ (s : Superstep). s.outcomes) (each_below k (superstep_in turn input)) ≡ map (outcomes_in turn input) (range_with_len 0 k)
outcomes-past turn input k = map_range-agree (λ (s : Superstep). s.outcomes) (superstep_in turn input) (outcomes_in turn input) k 0 (λ p _ _. refl)

-- the outcomes of its supersteps
pub outcomes-ended_at : (turn : ViewParts → OutcomeParts) (input : Input) (k : ℕ) → outcomes_of (supersteps_of (ended_at turn input k Halted)) ≡ map (outcomes_in turn input) (range_with_len 0 k) ++ outcomes_in turn input k ∷ []
outcomes-ended_at turn input k =
    map-append (λ (s : Superstep). s.outcomes) (each_below k (superstep_in turn input)) (open_superstep (ended_at turn input k Halted) ∷ [])
    ∙ ap (λ (os : List (List OutcomeParts)). os ++ outcomes_in turn input k ∷ []) (outcomes-past turn input k)

-- The memories of the last superstep.
pub memories-ended : (turn : ViewParts → OutcomeParts) (input : Input) (k n : ℕ) (out : ℕ → OutcomeParts) → outcomes_in turn input k ≡ each_below n out → memories_of (ended_at turn input k Halted) ≡ each_below n (λ p. (out p).memory)
memories-ended turn input k n out last = ap (map (λ (o : OutcomeParts). o.memory)) last ∙ map_range-agree (λ (o : OutcomeParts). o.memory) out (λ p. (out p).memory) n 0 (λ p _ _. refl)

-- Its lines, where no process prints before.
pub lines-ended : (turn : ViewParts → OutcomeParts) (input : Input) (k : ℕ) (line : ℕ → List (List ℕ))
    → ((s p : ℕ) → s < k → p < length input.mems → (outcome_of (outcomes_in turn input s) p).lines ≡ [])
    → ((p : ℕ) → p < length input.mems → (outcome_of (outcomes_in turn input k) p).lines ≡ line p)
    → lines_of (ended_at turn input k Halted) ≡ each_below (length input.mems) line
unfolding lines_of
lines-ended turn input k line silent last =
    let n = length input.mems in
    let lines_in : List OutcomeParts → ℕ → List (List ℕ) = λ os p. (outcome_of os p).lines in
    (λ i. each_below (count-state_at turn input k i) (lines_of_process (outcomes-ended_at turn input k i)))
    ∙ range-agree (lines_of_process (map (outcomes_in turn input) (range_with_len 0 k) ++ outcomes_in turn input k ∷ [])) line n 0 (λ p _ m.
    flat_map-none (λ os. lines_in os p) (outcomes_in turn input) (outcomes_in turn input k ∷ []) k 0 (λ s _ b. silent s p (omega arith) (omega arith))
    ∙ append-nil (lines_in (outcomes_in turn input k) p)
    ∙ last p (omega arith))

-- Its costs, a row for each superstep.
pub costs-ended : (turn : ViewParts → OutcomeParts) (input : Input) (k : ℕ) (row : ℕ → CostRow) (last : CostRow)
    → ((s : ℕ) → s < k → cost_of_delivery input.g input.l (outcomes_in turn input s) ≡ row s) → cost_of_end (outcomes_in turn input k) ≡ last
    → costs_of (ended_at turn input k Halted) ≡ map row (range_with_len 0 k) ++ last ∷ []
unfolding costs_of
costs-ended turn input k row last rows end =
    let delivered : map (cost_of_delivery input.g input.l) (map (λ (s : Superstep). s.outcomes) (each_below k (superstep_in turn input))) ≡ map row (range_with_len 0 k) =
    ap (map (cost_of_delivery input.g input.l)) (outcomes-past turn input k)
    ∙ map_range-agree (cost_of_delivery input.g input.l) (outcomes_in turn input) row k 0 (λ s _ m. rows s (omega arith)) in
    λ i. delivered i ++ end i ∷ []
