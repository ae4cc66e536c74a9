use Rattle.std.proofs.Common.{length, ap, sym, ◌∙◌}
use Rattle.bsp_deliver.proofs.CellsOf.{length-cells_of}
use Rattle.bsp_deliver.proofs.cells.Cells.len.Goals as goal

pub returns : goal.returns
returns c = c.len.ensures ∙ sym (length-cells_of c.self.inside.memories c.self.inside.queues) ∙ ap length c.self.view_is
