-- Orders of a range of numbers.
use Rattle.std.specs.Prelude.{◌≡◌, ◌<◌, ℕ}

-- Each number below n has a place below n of its own: element d is the number at place d.
pub record IsOrder (n : ℕ) (element place : ℕ → ℕ) : Type 0 where
  pub places : (p : ℕ) → p < n → (place p < n) × (element (place p) ≡ p)
  pub elements : (d : ℕ) → d < n → (element d < n) × (place (element d) ≡ d)
