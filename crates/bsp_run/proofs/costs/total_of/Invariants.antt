use Rattle.std.proofs.Common.{◌≡◌, ◌≤◌, ◌*◌, take, sum_by}
use Rattle.bsp_model.specs.Limits.{most_cost}
use Rattle.bsp_run.proofs.costs.total_of.Given as goal

abbrev pub invariant-loop-row : goal.invariant-loop-row
invariant-loop-row l = record {
  value : l.total ≡ sum_by (λ row. row.cost) (take l.row-index l.rows);
  small : l.total ≤ l.row-index * most_cost;
}
