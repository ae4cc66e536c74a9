-- The operators on two words.
use Rattle.std.specs.Prelude.{ℕ, Bool, not, Option, None, Some, ◌+◌, ◌-◌, ◌*◌, ◌/◌, ◌%◌, ◌^◌, ◌==◌, nat_lt, nat_le, if◌then◌else◌, bit_and, bit_or, bit_xor}
use Rattle.bsp_kernels.specs.declared.operator.Operator.{Operator}
use Rattle.bsp_kernels.specs.declared.operator.Operator.TheVariants.{Sub, Mul, Div, Rem, And, Or, Xor, Shl, Shr, Eq, Ne, Lt, Le}

abbrev pub truth : Bool → ℕ
truth b = if b then 1 else 0

-- the sum of two words
abbrev pub sum_of : ℕ → ℕ → ℕ
sum_of a b = (a + b) % 2 ^ 64

-- What an operator makes of two words, if it makes one (this profile).
abbrev pub applied : Operator → ℕ → ℕ → Option ℕ
applied Sub a b = Some ((a + (2 ^ 64 - b)) % 2 ^ 64)
applied Mul a b = Some ((a * b) % 2 ^ 64)
applied Div a b = if b == 0 then None else Some (a / b)
applied Rem a b = if b == 0 then None else Some (a % b)
applied And a b = Some (bit_and a b)
applied Or a b = Some (bit_or a b)
applied Xor a b = Some (bit_xor a b)
applied Shl a b = Some (if nat_lt b 64 then (a * 2 ^ b) % 2 ^ 64 else 0)
applied Shr a b = Some (if nat_lt b 64 then a / 2 ^ b else 0)
applied Eq a b = Some (truth (a == b))
applied Ne a b = Some (truth (not (a == b)))
applied Lt a b = Some (truth (nat_lt a b))
applied Le a b = Some (truth (nat_le a b))
