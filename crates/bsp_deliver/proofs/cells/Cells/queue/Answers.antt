use Rattle.std.proofs.Common.{List, ℕ, ap, ◌∙◌}
use Rattle.bsp_model.specs.declared.request.Message.{Message}
use Rattle.bsp_deliver.proofs.CellsOf.{cell_now}
use Rattle.bsp_deliver.proofs.cells.Cells.queue.Goals as goal

pub returns : goal.returns
returns c = c.get.ensures ∙ ap (λ (cell : List ℕ × List Message). cell.1) (cell_now c.self.inside.memories c.self.inside.queues c.args.self.now c.args.place c.self.view_is c.requires)
