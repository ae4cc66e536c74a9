-- The operations by which words are combined.
use Rattle.std.specs.Prelude.{ℕ, List, ◌+◌, ◌-◌, ◌%◌, ◌^◌, min, max, bit_or, bit_and, fold}
use Rattle.bsp_collectives.specs.declared.operation.Operation.{Operation as Operations}
use Rattle.bsp_collectives.specs.declared.operation.Operation.TheVariants.{Sum, Least, Greatest, Or, And}

-- the word that changes no other
abbrev pub neutral : Operations → ℕ
neutral Sum = 0
neutral Least = 2 ^ 64 - 1
neutral Greatest = 0
neutral Or = 0
neutral And = 2 ^ 64 - 1

-- what is made of two words: their sum modulo 2^64, the lesser, the greater, or bit by bit
abbrev pub applied : Operations → ℕ → ℕ → ℕ
applied Sum x y = (x + y) % 2 ^ 64
applied Least x y = min x y
applied Greatest x y = max x y
applied Or x y = bit_or x y
applied And x y = bit_and x y

-- what is made of words, from the first to the last
abbrev pub combined : Operations → List ℕ → ℕ
combined operation words = fold (applied operation) (neutral operation) words
