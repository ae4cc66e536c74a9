use Rattle.std.proofs.Common.{◌-◌}
use Rattle.bsp_step.specs.Blocks.{stores}
use Rattle.bsp_step.proofs.Running.{HasLeft}
use Rattle.heat.specs.Heat.{next_cells}
use Rattle.heat.proofs.CellBlocks.{IsAdvancing, cells_from}
use Rattle.heat.proofs.kernel.store_next_cells.Given as goal

-- the cells before the block are stored, and the others are left
abbrev pub invariant-loop-start : goal.invariant-loop-start
invariant-loop-start l =
    let memory = l.initial.ctx.memory in
    record {
      acts : HasLeft l.initial.ctx (stores 1 (next_cells memory)) l.ctx (stores l.start (cells_from memory l.start (l.end - l.start)));
      cells : IsAdvancing memory l.ctx.memory l.start l.before;
    }

abbrev pub decreases-loop-start : goal.decreases-loop-start
decreases-loop-start l = l.end - l.start
