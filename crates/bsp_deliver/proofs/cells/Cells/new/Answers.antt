use Rattle.bsp_deliver.proofs.CellsOf.{no_cells}
use Rattle.bsp_deliver.proofs.cells.Cells.new.Goals as goal

pub returns : goal.returns
returns c = rw (c.new.ensures, c.new-2.ensures) no_cells
