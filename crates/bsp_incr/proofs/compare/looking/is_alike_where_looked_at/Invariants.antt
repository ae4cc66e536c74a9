use Rattle.std.proofs.Common.{◌≡◌, ◌<◌, ◌-◌, ℕ, true, length, get_or}
use Rattle.bsp_incr.proofs.compare.looking.is_alike_where_looked_at.Given as goal

-- the words so far are equal where the program looks
abbrev pub invariant-loop-address : goal.invariant-loop-address
invariant-loop-address g l = (a : ℕ) → a < l.address → g.P.Program.looks l.program l.old a ≡ true → get_or l.old.memory a 0 ≡ get_or l.new a 0

abbrev pub decreases-loop-address : goal.decreases-loop-address
decreases-loop-address g l = length l.old.memory - l.address
