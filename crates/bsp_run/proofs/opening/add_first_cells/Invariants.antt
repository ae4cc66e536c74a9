use Rattle.std.proofs.Common.{◌≡◌, take, map}
use Rattle.bsp_run.specs.State.{first_cell}
use Rattle.bsp_run.proofs.opening.add_first_cells.Given as goal

abbrev pub invariant-loop-process : goal.invariant-loop-process
invariant-loop-process l = l.cells ≡ map (first_cell l.mems) (take l.process-index l.processes)
