use Rattle.std.proofs.Common.{[]}
use Rattle.std.proofs.lemmas.Result.{on_ok_weaker, on_err_weaker}
use Rattle.bsp_model.specs.Inside.Blocks.{blocks_of, AreBlocks}
use Rattle.bsp_model.proofs.BlocksOf.{no_blocks, AreBlocks-none}
use Rattle.bsp_model.proofs.EitherWay.{in_both}
use Rattle.bsp_model.proofs.PairedColumns.{cut_paired, taken_paired, cut_law, taken_law}
use Rattle.bsp_model.proofs.columns.blocks.BlockColumn.take_range.Goals as goal

pub returns-clause-err : goal.returns-clause-err
returns-clause-err g c =
    on_err_weaker _ (cut_paired (blocks_of g.X.Block.of) c.self.inside.pairs c.take_range.new.self c.args.self.now c.args.place (no_blocks g.X.Block.of []) c.self.view_is) c.take_range.ensures.err

pub returns-clause-ok : goal.returns-clause-ok
returns-clause-ok g c =
    on_ok_weaker _ (taken_paired (blocks_of g.X.Block.of) c.self.inside.pairs c.more.inside.pairs c.take_range.new.self c.args.self.now c.args.more.now c.args.place c.args.from c.args.to (no_blocks g.X.Block.of []) c.self.view_is c.more.view_is) c.take_range.ensures.ok

pub invariant_of-self : goal.invariant_of-self
invariant_of-self g c =
    in_both _ (taken_law (AreBlocks g.X.Block.IsKept) c.self.inside.pairs c.more.inside.pairs c.take_range.new.self c.args.place c.args.from c.args.to (AreBlocks-none g.X.Block.IsKept) c.self.invariant c.more.invariant)
    (cut_law (AreBlocks g.X.Block.IsKept) c.self.inside.pairs c.take_range.new.self c.args.place (AreBlocks-none g.X.Block.IsKept) c.self.invariant) c.take_range.ensures.ok c.take_range.ensures.err
