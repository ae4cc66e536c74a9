use Rattle.std.proofs.Common.{[], take, ap, ◌∙◌}
use Rattle.bsp_model.specs.Opened.{Opened}
use Rattle.bsp_model.specs.Inside.Blocks.{blocks_of, AreBlocks}
use Rattle.bsp_model.specs.Inside.OpenBlocks.{opened_blocks}
use Rattle.bsp_model.proofs.BlocksOf.{no_blocks, AreBlocks-none}
use Rattle.bsp_model.proofs.OpenRows.{take-paired, take_law}
use Rattle.bsp_model.proofs.columns.open_blocks.OpenBlocks.cut_rows.Goals as goal

pub invariant_of-self : goal.invariant_of-self
invariant_of-self g c =
    let b = c.self.inside in
    let none = AreBlocks-none g.X.Block.IsKept in
    rw (c.cut_rows.ensures, c.cut_rows-2.ensures)
    record { rows = take_law (AreBlocks g.X.Block.IsKept) b.heads.rows b.words.rows c.args.place none c.self.invariant.rows; last = none }

pub returns : goal.returns
returns g c =
    let b = c.self.inside in
    let rows = take-paired (blocks_of g.X.Block.of) b.heads.rows b.words.rows c.args.place in
    let none = no_blocks g.X.Block.of [] in
    (λ i. opened_blocks g.X.Block.of (c.cut_rows.ensures i) (c.cut_rows-2.ensures i))
    ∙ (λ i. record { rows = rows i; last = none i })
    ∙ ap (λ (o : Opened _). record { rows = take c.args.place o.rows; last = [] }) c.self.view_is
