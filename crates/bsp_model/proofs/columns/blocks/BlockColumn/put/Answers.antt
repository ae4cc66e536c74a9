use Rattle.std.proofs.Common.{[]}
use Rattle.std.proofs.lemmas.Result.{on_ok_weaker, on_err_weaker}
use Rattle.bsp_model.specs.Inside.Blocks.{blocks_of, AreBlocks}
use Rattle.bsp_model.proofs.BlocksOf.{no_blocks, AreBlocks-none}
use Rattle.bsp_model.proofs.EitherWay.{in_both}
use Rattle.bsp_model.proofs.PairedColumns.{cut_paired, put_paired, cut_law, put_law}
use Rattle.bsp_model.proofs.columns.blocks.BlockColumn.put.Goals as goal

pub returns-clause-err : goal.returns-clause-err
returns-clause-err g c =
    on_err_weaker _ (cut_paired (blocks_of g.X.Block.of) c.self.inside.pairs c.put_pair.new.self c.args.self.now c.args.place (no_blocks g.X.Block.of []) c.self.view_is) c.put_pair.ensures.err

pub returns-clause-ok : goal.returns-clause-ok
returns-clause-ok g c =
    let b = c.blocks-2 in
    on_ok_weaker _ (put_paired (blocks_of g.X.Block.of) c.self.inside.pairs c.put_pair.new.self c.args.self.now c.args.place b.inside.heads.now b.inside.words.now c.args.blocks.now (no_blocks g.X.Block.of []) c.self.view_is b.view_is) c.put_pair.ensures.ok

pub invariant_of-self : goal.invariant_of-self
invariant_of-self g c =
    let b = c.blocks-2 in
    in_both _ (put_law (AreBlocks g.X.Block.IsKept) c.self.inside.pairs c.put_pair.new.self c.args.place b.inside.heads.now b.inside.words.now (AreBlocks-none g.X.Block.IsKept) c.self.invariant b.invariant)
    (cut_law (AreBlocks g.X.Block.IsKept) c.self.inside.pairs c.put_pair.new.self c.args.place (AreBlocks-none g.X.Block.IsKept) c.self.invariant) c.put_pair.ensures.ok c.put_pair.ensures.err
