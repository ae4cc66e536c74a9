use Rattle.std.proofs.Common.{◌≡◌}
use Rattle.bsp_programs.specs.MatVec.{product_of}
use Rattle.bsp_programs.proofs.matvec.multiplying.product_of.Given as goal

-- the inner products of the rows so far
abbrev pub invariant-loop-i : goal.invariant-loop-i
invariant-loop-i l = l.product ≡ product_of l.i l.columns l.matrix l.vector
