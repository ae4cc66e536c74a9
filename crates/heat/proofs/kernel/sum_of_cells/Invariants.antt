use Rattle.std.proofs.Common.{◌≡◌, ◌≤◌, ◌-◌, ◌%◌, ◌^◌, take, drop, sum}
use Rattle.heat.proofs.kernel.sum_of_cells.Given as goal

-- the sum of the cells so far
abbrev pub invariant-loop-start : goal.invariant-loop-start
invariant-loop-start l =
    record {
      low : 1 ≤ l.start;
      high : l.start ≤ l.end;
      sum : l.sum ≡ sum (take (l.start - 1) (drop 1 l.ctx.memory)) % 2 ^ 64;
    }

abbrev pub decreases-loop-start : goal.decreases-loop-start
decreases-loop-start l = l.end - l.start
