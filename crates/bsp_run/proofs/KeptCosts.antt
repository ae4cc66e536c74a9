-- The costs that are kept while a run is recorded.
use Rattle.std.proofs.Common.{◌≡◌, ℕ, List, [], ◌∷◌, ◌++◌, map, sym, ap, ◌∙◌}
use Rattle.std.proofs.lemmas.List.{map-append}
use Rattle.bsp_model.specs.declared.cost.CostRow.{CostRow}
use Rattle.bsp_step.specs.ViewParts.{ViewParts}
use Rattle.bsp_step.specs.OutcomeParts.{OutcomeParts}
use Rattle.bsp_run.specs.declared.superstep.Superstep.{Superstep}
use Rattle.bsp_run.specs.Supersteps.{outcomes_of}
use Rattle.bsp_run.specs.Result.{cost_of_delivery}

-- A superstep more, and its cost.
pub costs_kept : (g l : ℕ) (past new : List Superstep) (vs : List ViewParts) (os : List OutcomeParts) (rows more : List CostRow) (row : CostRow) → rows ≡ map (cost_of_delivery g l) (outcomes_of past)
    → new ≡ past ++ record { views = vs; outcomes = os } ∷ [] → more ≡ rows ++ row ∷ [] → row ≡ cost_of_delivery g l os → more ≡ map (cost_of_delivery g l) (outcomes_of new)
costs_kept g l past new vs os rows more row before is added cost =
    let of : Superstep → List OutcomeParts = λ s. s.outcomes in
    let price = cost_of_delivery g l in
    added ∙ ap (λ xs. xs ++ row ∷ []) before ∙ ap (λ x. map price (map of past) ++ x ∷ []) cost
    ∙ sym (ap (map price) (ap (map of) is ∙ map-append of past (record { views = vs; outcomes = os } ∷ [])) ∙ map-append price (map of past) (os ∷ []))
