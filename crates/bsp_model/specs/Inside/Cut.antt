-- A write of words, cut where the full pages of a memory end.
use Rattle.std.specs.Prelude.{ℕ, ◌≡◌, ◌≤◌, ◌+◌, ◌-◌, List, length, take, drop, min}
use Rattle.bsp_model.specs.declared.paging.Cut.{Cut}

-- All words, from an address on, are within the memory, and those for its full pages are in front.
pub record IsCut (full len address : ℕ) (words : List ℕ) (c : Cut) : Type 0 where
  pub inside : address + length words ≤ len
  pub start : c.start ≡ min address full
  pub front : c.front.now ≡ take (min (length words) (full - address)) words
  pub place : c.place ≡ address + min (length words) (full - address) - full
  pub behind : c.behind.now ≡ drop (min (length words) (full - address)) words
