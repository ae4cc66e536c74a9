use Rattle.std.proofs.Common.{◌∙◌, arith}
use Rattle.bsp_model.proofs.MadeAgain.{written_inside}
use Rattle.bsp_model.proofs.stores_ref.write_inside.Goals as goal

pub returns : goal.returns
returns c = c.in_ok-write.ensures.written ∙ written_inside c.args.memory.now c.args.start c.min-inside.result c.args.words.now (omega arith)
