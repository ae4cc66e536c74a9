-- Lengths and parts, one by one.
use Rattle.std.proofs.Common.{◌≡◌, ◌<◌, ◌+◌, ◌++◌, ◌∷◌, [], ℕ, List, ap, drop, get_or, length, map, arith}
use Rattle.std.specs.List.{range_with_len}
use Rattle.std.proofs.lemmas.List.{drop_more}
use Rattle.std.proofs.lemmas.List.FromFn.{map-range_with_len_more}
use Rattle.bsp_step.specs.Act.{print}
use Rattle.collectives.specs.Parting.{length_for}

pub one_more_length : (args : List ℕ) (k : ℕ) → map (length_for args) (range_with_len 0 (k + 1)) ≡ map (length_for args) (range_with_len 0 k) ++ length_for args k ∷ []
one_more_length args k = map-range_with_len_more (length_for args) 0 k k (omega arith)

-- the first line of those that are left
pub print_first : (parts : List (List ℕ)) (k : ℕ) → k < length parts → map print (drop k parts) ≡ print (get_or parts k []) ∷ map print (drop (k + 1) parts)
print_first parts k within = ap (map print) (drop_more parts k [] within)
