use Rattle.std.proofs.Common.{◌∙◌, ap}
use Rattle.std.specs.Prelude.{length, nat_eq}
use Rattle.bsp_model.specs.Inside.Blocks.{blocks_of}
use Rattle.bsp_model.proofs.PairedColumns.{none-paired}
use Rattle.bsp_model.proofs.columns.blocks.BlockColumn.is_empty.Goals as goal

pub returns : goal.returns
returns g c = c.is_empty.ensures ∙ none-paired (blocks_of g.X.Block.of) c.self.inside.pairs.0 c.self.inside.pairs.1 ∙ ap (λ rows. nat_eq (length rows) 0) c.self.view_is
