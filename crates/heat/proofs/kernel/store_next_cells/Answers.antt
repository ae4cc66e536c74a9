use Rattle.std.proofs.Common.{◌+◌, ◌-◌, ◌++◌, ◌∷◌, take, drop, sym, ap, ◌∙◌, arith}
use Rattle.std.proofs.lemmas.Result.{err_from_is_err_and}
use Rattle.bsp_step.specs.Blocks.{stores}
use Rattle.bsp_step.specs.Perform.{perform_all}
use Rattle.bsp_step.proofs.Running.{HasLeft-same, HasLeft-at_part, RunStops-left_part}
use Rattle.heat.specs.Heat.{next_cells}
use Rattle.heat.proofs.CellBlocks.{cells_from, cells_of_block, stores_of_block, IsAdvancing-block, IsAdvancing-end}
use Rattle.heat.proofs.kernel.store_next_cells.Goals as goal

pub returns-in_err-before-clause-acted : goal.returns-in_err-before-clause-acted
returns-in_err-before-clause-acted c =
    let m = c.args.ctx.now.memory in
    let start = c.loop-start.start in
    let count = c.min-count.result in
    let end = c.memory_len-end.result - 1 in
    let same = cells_of_block c.loop-start.invariant.cells count (omega arith) in
    let first = HasLeft-same c.loop-start.invariant.acts (stores_of_block m start count end (omega arith) ∙ ap (λ cells. stores start cells ++ stores (start + count) (cells_from m (start + count) (end - (start + count)))) (sym same)) in
    let p = err_from_is_err_and c.from_residual.result c.from_residual.ensures.1 in
    rw (p.1, p.2) (RunStops-left_part c.store_block.new.ctx (stores start (next_cells (c.loop-start.before ∷ take (count + 1) (drop start c.loop-start.ctx.memory)))) (stores (start + count) (cells_from m (start + count) (end - (start + count)))) c.in_err-before.field-0.0 first c.in_err-before.ensures.acted)

pub loop-start-preserved : goal.loop-start-preserved
loop-start-preserved c =
    let m = c.args.ctx.now.memory in
    let now = c.loop-start.ctx in
    let start = c.loop-start.start in
    let count = c.min-count.result in
    let end = c.memory_len-end.result - 1 in
    let same = cells_of_block c.loop-start.invariant.cells count (omega arith) in
    let acted = c.in_ok-before.ensures.acted in
    record {
      acts = HasLeft-at_part (stores start (cells_from m start count)) (HasLeft-same c.loop-start.invariant.acts (stores_of_block m start count end (omega arith))) (acted.0 ∙ ap (λ cells. perform_all now (stores start cells)) same);
      cells = IsAdvancing-block c.loop-start.invariant.cells count c.store_block.new.ctx.memory c.in_ok-before.before (omega arith) (omega arith) c.in_ok-before.ensures.memory acted.1;
    }

pub returns-clause-cells : goal.returns-clause-cells
returns-clause-cells c = IsAdvancing-end c.loop-start.invariant.cells c.requires (omega arith)
