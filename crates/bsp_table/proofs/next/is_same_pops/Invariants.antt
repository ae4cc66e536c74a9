use Rattle.std.proofs.Common.{◌≡◌, ◌≤◌, ◌<◌, ℕ, true, get_or, nat_eq, []}
use Rattle.std.specs.Cmp.Lexicographic.{pointwise}
use Rattle.bsp_table.proofs.next.is_same_pops.Given as goal

-- none so far differs from the first
abbrev pub invariant-loop-pid : goal.invariant-loop-pid
invariant-loop-pid g l = let pops = g.R.Registers.pops l.all in (k : ℕ) → k < l.pid → 1 ≤ k → pointwise nat_eq (get_or pops 0 []) (get_or pops k []) ≡ true
