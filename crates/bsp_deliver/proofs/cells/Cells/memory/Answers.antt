use Rattle.std.proofs.Common.{List, ℕ, length, ap, ◌∙◌, arith}
use Rattle.bsp_model.specs.declared.request.Message.{Message}
use Rattle.bsp_deliver.proofs.CellsOf.{length-cells_of, cell_now}
use Rattle.bsp_deliver.proofs.cells.Cells.memory.Goals as goal

pub get-requires : goal.get-requires
get-requires c = omega (arith, c.requires, length-cells_of c.self.inside.memories c.self.inside.queues, ap length c.self.view_is)

pub returns : goal.returns
returns c = c.get.ensures ∙ ap (λ (cell : List ℕ × List Message). cell.0) (cell_now c.self.inside.memories c.self.inside.queues c.args.self.now c.args.place c.self.view_is c.requires)
