use Rattle.std.proofs.Common.{◌≡◌, ◌∙◌, ◌++◌, ◌∷◌, [], ◌+◌, ◌-◌, ◌*◌, List, ℕ, take, drop, sym, ap, arith}
use Rattle.bsp_programs.specs.MatVec.{product_of, inner_product}
use Rattle.bsp_programs.proofs.Multiplying.{product_of-more}
use Rattle.bsp_programs.proofs.matvec.multiplying.product_of.Goals as goal

pub loop-i-preserved : goal.loop-i-preserved
loop-i-preserved c =
    let i = c.loop-i.i in
    let n = c.columns-columns.result in
    let matrix = c.args.matrix.now in
    let vector = c.args.vector.now in
    let width : i * n + n - i * n ≡ n = omega arith in
    c.in_ok-push.ensures.ok
    ∙ ap (λ (xs : List ℕ). xs ++ c.inner_product.result ∷ []) c.loop-i.invariant
    ∙ ap (λ (x : ℕ). product_of i n matrix vector ++ x ∷ []) (c.inner_product.ensures ∙ ap (λ (k : ℕ). inner_product (take k (drop (i * n) matrix)) vector) width)
    ∙ sym (product_of-more i n matrix vector)
