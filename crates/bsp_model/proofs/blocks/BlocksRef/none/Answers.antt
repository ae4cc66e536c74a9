use Rattle.std.proofs.Common.{[]}
use Rattle.bsp_model.proofs.BlocksOf.{no_blocks, AreBlocks-none}
use Rattle.bsp_model.proofs.blocks.BlocksRef.none.Goals as goal

pub invariant_of-result : goal.invariant_of-result
invariant_of-result g c = AreBlocks-none g.X.Block.IsKept

pub returns : goal.returns
returns g c = no_blocks g.X.Block.of []
