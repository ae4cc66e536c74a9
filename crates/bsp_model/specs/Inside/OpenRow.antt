-- Rows that lie one behind the other in one list, and behind them the items of the open row.
use Rattle.std.specs.Prelude.{ℕ, ◌≤◌, List, length, take, drop}
use Rattle.bsp_model.specs.Opened.{Opened}
use Rattle.bsp_model.specs.Inside.Rows.{rows_of, AreEnds}

abbrev pub opened_in : {X : Type 0} → List X → List ℕ → ℕ → Opened X
opened_in items ends start = record { rows = rows_of 0 (take start items) ends; last = drop start items }

-- The last row ends where the open row starts.
pub record IsOpen {X : Type 0} (items : List X) (ends : List ℕ) (start : ℕ) : Type 0 where
  pub ends_there : AreEnds 0 ends start
  pub inside : start ≤ length items
