use Rattle.std.proofs.Common.{length, ap, arith}
use Rattle.bsp_model.specs.Opened.{Opened}
use Rattle.bsp_model.proofs.BlocksOf.{length-blocks}
use Rattle.bsp_model.proofs.columns.open_blocks.OpenBlocks.len.Goals as goal

pub returns : goal.returns
returns g c = omega (arith, c.len.ensures, length-blocks g.X.Block.of c.self.inside.heads.last c.self.inside.words.last, ap (λ (o : Opened _). length o.last) c.self.view_is)
