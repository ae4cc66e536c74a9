-- What a run that has ended gives.
use Rattle.std.specs.Prelude.{◌≤◌, ℕ, ◌+◌, ◌*◌, List, ◌++◌, map, length, sum_by, if◌then◌else◌}
use Rattle.std.specs.List.{flat_map}
use Rattle.bsp_model.specs.Limits.{most_cost, most_h, most_work}
use Rattle.bsp_model.specs.declared.cost.CostRow.{CostRow}
use Rattle.bsp_step.specs.OutcomeParts.{OutcomeParts, outcome_of}
use Rattle.bsp_deliver.specs.Requests.{each_below}
use Rattle.bsp_deliver.specs.Cost.{h_relation, largest}
use Rattle.bsp_run.specs.declared.result.Status.{Status}
use Rattle.bsp_run.specs.declared.result.Status.TheVariants.{Limit}
use Rattle.bsp_run.specs.declared.result.RunResult.{RunResult}
use Rattle.bsp_run.specs.declared.phase.Phase.{Phase}
use Rattle.bsp_run.specs.declared.phase.Phase.TheVariants.{Open, Turned, Ended}
use Rattle.bsp_run.specs.Run.{Run, is_limit}
use Rattle.bsp_run.specs.Supersteps.{outcomes_of, last_superstep, supersteps_of}

-- the status of a run that has ended
abbrev pub status_in : Phase → Status
status_in (Ended status) = status
status_in Open = Limit
status_in Turned = Limit

abbrev pub status_of : Run → Status
status_of r = status_in r.phase

-- The memories after the last computing; at the limit those after the last delivery (this profile).
abbrev pub memories_of : Run → List (List ℕ)
memories_of r = if is_limit r.phase then r.state.memories else map (λ o. o.memory) r.outcomes

-- The lines of a process in all its outcomes, one superstep after the other.
abbrev pub lines_of_process : List (List OutcomeParts) → ℕ → List (List ℕ)
lines_of_process turns p = flat_map (λ os. (outcome_of os p).lines) turns

unfoldable pub lines_of : Run → List (List (List ℕ))
lines_of r = each_below (length r.state.memories) (lines_of_process (outcomes_of (supersteps_of r)))

-- the largest work that a process charged
abbrev pub largest_work : List OutcomeParts → ℕ
largest_work os = largest (map (λ o. o.work) os)

-- A superstep that ends by delivery costs w + h*g + l (the usual additive BSP cost formula, later than Valiant 1990).
abbrev pub cost_of_delivery : ℕ → ℕ → List OutcomeParts → CostRow
cost_of_delivery g l os = record { work = largest_work os; h = h_relation os; cost = largest_work os + h_relation os * g + l }

-- Every other superstep costs its work alone (this profile).
abbrev pub cost_of_end : List OutcomeParts → CostRow
cost_of_end os = record { work = largest_work os; h = 0; cost = largest_work os }

unfoldable pub costs_of : Run → List CostRow
costs_of r = map (cost_of_delivery r.g r.l) (outcomes_of r.past) ++ map cost_of_end (outcomes_of (last_superstep r))

-- a cost that can be added up
pub record IsSmall (row : CostRow) : Type 0 where
  pub work : row.work ≤ most_work
  pub h : row.h ≤ most_h
  pub cost : row.cost ≤ most_cost

abbrev pub total_of : List CostRow → ℕ
total_of rows = sum_by (λ row. row.cost) rows

-- What the run gives to its user.
unfoldable pub result_of : Run → RunResult
result_of r =
    record {
      status = status_of r;
      memories = memories_of r;
      lines = lines_of r;
      costs = costs_of r;
      total = total_of (costs_of r);
    }
