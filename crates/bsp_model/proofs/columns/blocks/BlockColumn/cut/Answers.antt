use Rattle.std.proofs.Common.{[]}
use Rattle.bsp_model.specs.Inside.Blocks.{blocks_of, AreBlocks}
use Rattle.bsp_model.proofs.BlocksOf.{no_blocks, AreBlocks-none}
use Rattle.bsp_model.proofs.PairedColumns.{cut_paired, cut_law}
use Rattle.bsp_model.proofs.columns.blocks.BlockColumn.cut.Goals as goal

pub returns : goal.returns
returns g c = cut_paired (blocks_of g.X.Block.of) c.self.inside.pairs c.cut.new.self c.args.self.now c.args.place (no_blocks g.X.Block.of []) c.self.view_is c.cut.ensures

pub invariant_of-self : goal.invariant_of-self
invariant_of-self g c = cut_law (AreBlocks g.X.Block.IsKept) c.self.inside.pairs c.cut.new.self c.args.place (AreBlocks-none g.X.Block.IsKept) c.self.invariant c.cut.ensures
