use Rattle.bsp_model.specs.Inside.Blocks.{AreBlocks}
use Rattle.bsp_model.proofs.BlocksOf.{AreBlocks-none}
use Rattle.bsp_model.proofs.PairedColumns.{none_law}
use Rattle.bsp_model.proofs.columns.blocks.BlockColumn.new.Goals as goal

pub invariant_of-result : goal.invariant_of-result
invariant_of-result g c = none_law (AreBlocks g.X.Block.IsKept) c.new.result (AreBlocks-none g.X.Block.IsKept) c.new.ensures
