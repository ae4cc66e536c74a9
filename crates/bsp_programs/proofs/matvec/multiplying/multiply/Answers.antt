use Rattle.std.proofs.Common.{◌∙◌, length, ap, arith}
use Rattle.bsp_programs.proofs.Multiplying.{length-product_of}
use Rattle.bsp_programs.proofs.matvec.multiplying.multiply.Goals as goal

pub answer-requires : goal.answer-requires
answer-requires c =
    let long = ap length (c.as_slice-3.ensures ∙ c.in_ok-product.ensures) ∙ length-product_of c.args.layout.block _ _ _ in
    omega arith
