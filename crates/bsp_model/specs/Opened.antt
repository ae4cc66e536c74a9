-- Rows, and behind them one that still gets items.
use Rattle.std.specs.Prelude.{List}

pub record Opened (X : Type 0) : Type 0 where
  pub rows : List (List X)
  pub last : List X
