use Rattle.std.proofs.Common.{◌≡◌, ◌++◌, filter}
use Rattle.std.specs.List.{range_with_len}
use Rattle.bsp_causes.proofs.OtherWords.{is_other_at}
use Rattle.bsp_causes.proofs.turns.add_other_words_from.Given as goal

-- of the words so far the others are added
abbrev pub invariant-loop-i : goal.invariant-loop-i
invariant-loop-i g l = l.words ≡ l.initial.words ++ filter (is_other_at (g.P.Program.looks l.program l.view) l.first l.old l.new) (range_with_len l.first l.i)
