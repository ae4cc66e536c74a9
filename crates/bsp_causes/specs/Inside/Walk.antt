-- The walk over the places of an update, superstep by superstep, of which private functions alone speak.
use Rattle.std.specs.Prelude.{◌<◌, ◌≤◌, ◌+◌, ◌++◌, ◌||◌, ℕ, List, [], ◌∷◌, filter, if◌then◌else◌, length, map, slice_index_or, Option}
use Rattle.std.specs.List.{range_with_len}
use Rattle.bsp_run.specs.Run.{Run}
use Rattle.bsp_incr.specs.declared.reply.Place.{Place}
use Rattle.bsp_causes.specs.declared.costs.StepCost.{StepCost}
use Rattle.bsp_causes.specs.declared.costs.UpdateCost.{UpdateCost}
use Rattle.bsp_incr.specs.declared.reply.Update.{Update}
use Rattle.bsp_causes.specs.Travel.{has_some}
use Rattle.bsp_causes.specs.UpdateCost.{is_redone, row_again, step_cost, total_again}

-- a place that there is not
abbrev pub no_place : Place
no_place = record { step = 0; pid = 0 }

-- the processes of these places
abbrev pub processes_of : List Place → List ℕ
processes_of places = map (λ p. p.pid) places

abbrev pub step_at : List Place → ℕ → ℕ
step_at places k = (slice_index_or places k no_place).step

-- no place is of an earlier superstep than one before it
pub record AreBySuperstep (places : List Place) : Type 0 where
  pub each : (i j : ℕ) → i ≤ j → j < length places → step_at places i ≤ step_at places j

-- the places of superstep s begin at k: those before are of earlier supersteps, the others of this one or later ones
pub record BeginsAt (places : List Place) (s k : ℕ) : Type 0 where
  pub within : k ≤ length places
  pub before : (i : ℕ) → i < k → step_at places i < s
  pub behind : (i : ℕ) → k ≤ i → i < length places → s ≤ step_at places i

-- the row of superstep s, if something was done again there
abbrev pub rows_at : Option Run → Run → ℕ → List ℕ → List ℕ → List StepCost
rows_at old new s turned delivered =
    if has_some turned || has_some delivered then record { step = s; row = row_again old new s turned delivered } ∷ [] else []

-- the rows of the supersteps below n
abbrev pub rows_below : Option Run → Run → Update → ℕ → List StepCost
rows_below old new update n = map (step_cost old new update) (filter (is_redone update) (range_with_len 0 n))

-- the cost with more rows
abbrev pub with_rows : UpdateCost → List StepCost → UpdateCost
with_rows cost more = record { rows = cost.rows ++ more; total = cost.total + total_again more }
