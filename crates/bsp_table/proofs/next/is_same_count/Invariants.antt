use Rattle.std.proofs.Common.{◌≡◌, ◌≤◌, ◌<◌, ◌==◌, ℕ, true, get_or, length, []}
use Rattle.bsp_table.proofs.next.is_same_count.Given as goal

-- none so far differs from the first
abbrev pub invariant-loop-pid : goal.invariant-loop-pid
invariant-loop-pid g l = let pushes = g.R.Registers.pushes l.all in (k : ℕ) → k < l.pid → 1 ≤ k → (length (get_or pushes 0 []) == length (get_or pushes k [])) ≡ true
