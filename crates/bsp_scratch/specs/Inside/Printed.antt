-- The lines of a run whose record is not kept.
use Rattle.std.specs.Prelude.{◌≡◌, ℕ, List, ◌++◌}
use Rattle.std.specs.List.{flat_map}
use Rattle.bsp_model.specs.Columns.{row_at}
use Rattle.bsp_step.specs.OutcomeParts.{OutcomeParts, outcome_of}

-- the lines of a process in these supersteps, one superstep after the other
abbrev pub lines_in : List (List (List (List ℕ))) → ℕ → List (List ℕ)
lines_in printed p = flat_map (λ each. row_at each p) printed

-- the same, and then those of one superstep more
abbrev pub lines_and : List (List (List (List ℕ))) → List OutcomeParts → ℕ → List (List ℕ)
lines_and printed os p = lines_in printed p ++ (outcome_of os p).lines

-- Each process has these lines where it had the old ones before one superstep more.
pub record AreLinesAnd (old : List (List (List (List ℕ)))) (os : List OutcomeParts) (new : List (List (List (List ℕ)))) : Type 0 where
  pub each : (p : ℕ) → lines_in new p ≡ lines_and old os p
