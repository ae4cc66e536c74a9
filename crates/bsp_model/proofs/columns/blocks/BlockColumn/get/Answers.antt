use Rattle.std.proofs.Common.{[]}
use Rattle.bsp_model.specs.Inside.Blocks.{blocks_of}
use Rattle.bsp_model.proofs.BlocksOf.{no_blocks}
use Rattle.bsp_model.proofs.PairedColumns.{row_from-pair}
use Rattle.bsp_model.proofs.columns.blocks.BlockColumn.get.Goals as goal

pub returns : goal.returns
returns g c = row_from-pair (blocks_of g.X.Block.of) c.self.inside.pairs c.args.self.now c.args.place (c.pair.result.0.now, c.pair.result.1.now) (no_blocks g.X.Block.of []) c.self.view_is c.pair.ensures
