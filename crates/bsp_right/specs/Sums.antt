-- Sums of numbers that are given by a function.
use Rattle.std.specs.Prelude.{◌+◌, ℕ, zero, suc}

-- the first n of these numbers, summed
abbrev pub sum_before : (ℕ → ℕ) → ℕ → ℕ
sum_before number zero = 0
sum_before number (suc n) = sum_before number n + number n
