-- The first items of a list that is cut behind them.
use Rattle.std.proofs.Common.{◌≡◌, ◌≤◌, ℕ, ◌+◌, List, ◌++◌, length, take, drop, min, arith}
use Rattle.std.proofs.lemmas.List.{same_lists, places}
use Rattle.std.proofs.lemmas.Bool.Decides.{nat_tests}

pub take_last : {X : Type 0} (items : List X) (start count end most : ℕ) → start ≤ length items → end ≡ min (start + count) most → length items ≤ most → take end items ≡ take start items ++ take count (drop start items)
take_last items start count end most within is few = same_lists _ _ (grind (arith, places, nat_tests)) (λ k d l. grind (arith, places, nat_tests))
