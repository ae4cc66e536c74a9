use Rattle.std.proofs.Common.{◌+◌, ◌-◌, ◌%◌, ◌^◌, take, drop, sum, sym, ap, ◌∙◌, arith}
use Rattle.std.proofs.Math.Nat.{add-mod-mod, mod-add-mod}
use Rattle.heat.proofs.CellBlocks.{sum_more}
use Rattle.heat.proofs.kernel.sum_of_cells.Goals as goal

pub loop-start-preserved : goal.loop-start-preserved
loop-start-preserved c =
    let m = c.args.ctx.now.memory in
    let start = c.loop-start.start in
    let count = c.min-count.result in
    let before = sum (take (start - 1) (drop 1 m)) in
    let block = sum (take count (drop start m)) in
    record {
      low = omega arith;
      high = omega arith;
      sum =
          ap (λ n. (n + c.sum_of_block-sum.result) % 2 ^ 64) c.loop-start.invariant.sum
          ∙ ap (λ n. (before % 2 ^ 64 + n) % 2 ^ 64) c.sum_of_block-sum.ensures
          ∙ add-mod-mod (before % 2 ^ 64) block (2 ^ 64)
          ∙ mod-add-mod before (2 ^ 64) block
          ∙ ap (λ n. n % 2 ^ 64) (sym (sum_more m start count c.loop-start.invariant.low));
    }
