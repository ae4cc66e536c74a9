-- Outputs that are kept by number.
use Rattle.std.specs.Prelude.{◌≡◌, ℕ, List, Option, Some, length, slice_get}

-- there is a place for each output of outs, and what is kept in it is that output
pub record AreKept {T : Type 0} (outs : List T) (kept : List (Option T)) : Type 0 where
  pub places : length kept ≡ length outs
  pub right : (number : ℕ) (out : T) → slice_get kept number ≡ Some (Some out) → slice_get outs number ≡ Some out
