use Rattle.std.proofs.Common.{length, sym, ap, ◌∙◌}
use Rattle.bsp_model.proofs.BlocksOf.{length-blocks}
use Rattle.bsp_model.proofs.blocks.BlocksRef.len.Goals as goal

pub returns : goal.returns
returns g c = sym (length-blocks g.X.Block.of c.self.inside.heads.now c.self.inside.words.now) ∙ ap length c.self.view_is
