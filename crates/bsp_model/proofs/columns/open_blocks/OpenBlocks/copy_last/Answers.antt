use Rattle.bsp_model.proofs.BlocksOf.{AreBlocks-none}
use Rattle.bsp_model.proofs.columns.open_blocks.OpenBlocks.copy_last.Goals as goal

pub invariant_of-result : goal.invariant_of-result
invariant_of-result g c = rw (c.in_ok-copy_last.ensures, c.in_ok-copy_last-2.ensures) record { rows = λ k. AreBlocks-none g.X.Block.IsKept; last = c.self.invariant.last }
