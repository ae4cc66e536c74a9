use Rattle.std.proofs.Common.{[], ◌∙◌}
use Rattle.bsp_model.specs.Inside.OpenBlocks.{opened_blocks}
use Rattle.bsp_model.proofs.BlocksOf.{AreBlocks-none, no_blocks}
use Rattle.bsp_model.proofs.columns.open_blocks.OpenBlocks.new.Goals as goal

pub invariant_of-result : goal.invariant_of-result
invariant_of-result g c = rw (c.new.ensures, c.new-2.ensures) record { rows = λ k. AreBlocks-none g.X.Block.IsKept; last = AreBlocks-none g.X.Block.IsKept }

pub returns : goal.returns
returns g c =
    let none = no_blocks g.X.Block.of [] in
    (λ i. opened_blocks g.X.Block.of (c.new.ensures i) (c.new-2.ensures i)) ∙ (λ i. record { rows = []; last = none i })
