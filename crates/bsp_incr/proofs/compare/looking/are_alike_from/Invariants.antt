use Rattle.std.proofs.Common.{◌≡◌, ◌<◌, ◌+◌, ℕ, true, get_or}
use Rattle.bsp_incr.proofs.compare.looking.are_alike_from.Given as goal

-- the words so far are equal where the program looks
abbrev pub invariant-loop-i : goal.invariant-loop-i
invariant-loop-i g l = (i : ℕ) → i < l.i → g.P.Program.looks l.program l.view (l.first + i) ≡ true → get_or l.old i 0 ≡ get_or l.new i 0
