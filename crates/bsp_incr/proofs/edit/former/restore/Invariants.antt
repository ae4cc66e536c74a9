use Rattle.std.proofs.Common.{◌≡◌, vec_len}
use Rattle.bsp_incr.specs.Inside.Formers.{restored}
use Rattle.bsp_incr.proofs.edit.former.restore.Given as goal

-- what was put back so far, and what is left
abbrev pub invariant-loop-former : goal.invariant-loop-former
invariant-loop-former l = restored l.input l.formers.items ≡ restored l.fn.input l.fn.formers.items

abbrev pub decreases-loop-former : goal.decreases-loop-former
decreases-loop-former l = vec_len l.formers
