use Rattle.std.proofs.Common.{◌≤◌, ◌≡◌, max, map, drop}
use Rattle.bsp_model.specs.Limits.{most_work}
use Rattle.bsp_deliver.specs.Cost.{largest}
use Rattle.bsp_run.proofs.costs.largest_work.Given as goal

-- the largest so far, and the largest of what is left
abbrev pub invariant-loop-pid : goal.invariant-loop-pid
invariant-loop-pid l = record {
  value : max l.most (largest (map (λ o. o.work) (drop l.pid l.outcomes))) ≡ largest (map (λ o. o.work) l.outcomes);
  small : l.most ≤ most_work;
}
