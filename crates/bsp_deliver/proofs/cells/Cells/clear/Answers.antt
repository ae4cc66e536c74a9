use Rattle.bsp_deliver.proofs.CellsOf.{no_cells}
use Rattle.bsp_deliver.proofs.cells.Cells.clear.Goals as goal

pub returns : goal.returns
returns c = rw (c.clear.ensures, c.clear-2.ensures) no_cells
