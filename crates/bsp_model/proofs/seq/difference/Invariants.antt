use Rattle.std.proofs.Common.{◌≡◌}
use Rattle.std.specs.Prelude.{◌↔◌}
use Rattle.bsp_model.proofs.SameWords.{AreSameBelow}
use Rattle.bsp_model.proofs.seq.difference.Given as goal

-- so far no bit differs exactly where the words are the same
abbrev pub invariant-loop-i : goal.invariant-loop-i
invariant-loop-i l = (l.difference ≡ 0) ↔ AreSameBelow l.left l.right l.i
