-- Numbers in order, one by one.
use Rattle.std.proofs.Common.{◌≡◌, ◌<◌, ◌-◌, ◌+◌, ◌∷◌, ℕ, refl, suc, arith}
use Rattle.std.specs.List.{range_with_len}

-- the first of the numbers from q to n
pub range_with_len-first : (q n : ℕ) → q < n → range_with_len q (n - q) ≡ q ∷ range_with_len (q + 1) (n - (q + 1))
range_with_len-first q n h = let e : n - q ≡ suc (n - (q + 1)) = omega arith in rw e refl
