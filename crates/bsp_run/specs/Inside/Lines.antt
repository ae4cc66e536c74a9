-- Lines that are known to be those of a run.
use Rattle.std.specs.Prelude.{◌≡◌, ◌<◌, ℕ, Bool, true, false, ◌&&◌, not, nat_lt, if◌then◌else◌, List, length, slice_index_or, []}
use Rattle.bsp_model.specs.Columns.{row_at}
use Rattle.bsp_step.specs.OutcomeParts.{OutcomeParts}
use Rattle.bsp_run.specs.Result.{lines_of_process}

-- Each process that is not marked has these lines in these supersteps.
pub record AreLinesUnlessMarked (lines : List (List (List ℕ))) (marks : List Bool) (turns : List (List OutcomeParts))
    : Type 0 where
  pub same : (p : ℕ) → p < length lines → slice_index_or marks p true ≡ false
      → slice_index_or lines p [] ≡ lines_of_process turns p

-- whether a previous run had such a process, which is not marked
abbrev pub is_taken : List (List (List ℕ)) → List Bool → ℕ → Bool
is_taken before marks p = nat_lt p (length before) && not (slice_index_or marks p true)

-- the lines of a process: those of a previous run, or else those in a column
abbrev pub lines_from : List (List (List ℕ)) → List Bool → List (List (List ℕ)) → ℕ → List (List ℕ)
lines_from before marks all p = if is_taken before marks p then row_at before p else row_at all p

-- Each process below n whose lines are not taken has these lines in these supersteps.
pub record AreGathered (before : List (List (List ℕ))) (marks : List Bool) (turns : List (List OutcomeParts)) (n : ℕ)
    (all : List (List (List ℕ))) : Type 0 where
  pub same : (p : ℕ) → p < n → is_taken before marks p ≡ false → row_at all p ≡ lines_of_process turns p
