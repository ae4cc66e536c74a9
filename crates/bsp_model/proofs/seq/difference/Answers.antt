use Rattle.std.proofs.Common.{ap, get_or, arith}
use Rattle.std.proofs.lemmas.List.{ext_get_or}
use Rattle.bsp_model.proofs.SameWords.{one_word_more}
use Rattle.bsp_model.proofs.seq.difference.Goals as goal

pub loop-i-preserved : goal.loop-i-preserved
loop-i-preserved c = one_word_more c.args.left.now c.args.right.now c.loop-i.i c.loop-i.difference c.loop-i.invariant

pub returns : goal.returns
returns c = (
  λ e. ext_get_or 0 c.args.left.now c.args.right.now c.requires (λ k l. c.loop-i.invariant.0 e k (omega (arith, l))),
  λ e. c.loop-i.invariant.1 (λ k l. ap (λ xs. get_or xs k 0) e),
)
