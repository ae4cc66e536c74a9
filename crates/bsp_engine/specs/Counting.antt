-- A reader or writer of std, and how often it failed.
use Rattle.std.specs.Prelude.{ℕ}

pub record Counting (T : Type 0) : Type 0 where
  pub inner : T
  pub failures : ℕ
