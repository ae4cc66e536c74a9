-- Columns: for each process, by its number, a row.
use Rattle.std.specs.Prelude.{ℕ, ◌≡◌, ◌<◌, ◌≤◌, ◌+◌, ◌-◌, List, [], slice_index_or}

-- the row of a process in a list of rows; empty where there is none
abbrev pub row_at : {X : Type 0} → List (List X) → ℕ → List X
row_at rows p = slice_index_or rows p []

-- The rows from a process on are left out: theirs are empty.
pub record AreCut {X : Type 0} (empty : X) (old : ℕ → X) (place : ℕ) (new : ℕ → X) : Type 0 where
  pub before : (k : ℕ) → k < place → new k ≡ old k
  pub behind : (k : ℕ) → place ≤ k → new k ≡ empty

-- A process has this row, and those behind it are left out.
pub record IsPut {X : Type 0} (empty : X) (old : ℕ → X) (place : ℕ) (row : X) (new : ℕ → X) : Type 0 where
  pub before : (k : ℕ) → k < place → new k ≡ old k
  pub there : new place ≡ row
  pub behind : (k : ℕ) → place < k → new k ≡ empty

-- The processes from a place on have the rows that others have from one on, and before another, and those behind them are left out.
pub record AreTaken {X : Type 0} (empty : X) (old : ℕ → X) (place : ℕ) (more : ℕ → X) (from to : ℕ) (new : ℕ → X) : Type 0 where
  pub before : (k : ℕ) → k < place → new k ≡ old k
  pub taken : (k : ℕ) → place ≤ k → k < place + (to - from) → new k ≡ more (from + (k - place))
  pub behind : (k : ℕ) → place ≤ k → place + (to - from) ≤ k → new k ≡ empty
