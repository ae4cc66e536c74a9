use Rattle.std.proofs.Common.{◌≡◌, ◌+◌, ◌*◌, ◌%◌, ◌^◌, length, drop, sum_by}
use Rattle.std.specs.List.{zip}
use Rattle.bsp_programs.specs.MatVec.{inner_product}
use Rattle.bsp_programs.proofs.matvec.multiplying.inner_product.Given as goal

-- the sum so far and the products that are left make the inner product
abbrev pub invariant-loop-a : goal.invariant-loop-a
invariant-loop-a l =
    (l.sum + sum_by (λ pair. pair.0 * pair.1) (zip (drop (length l.yielded) l.row) (drop (length l.yielded) l.vector))) % 2 ^ 64
    ≡ inner_product l.row l.vector
