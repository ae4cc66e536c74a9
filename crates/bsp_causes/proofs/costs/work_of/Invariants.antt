use Rattle.std.proofs.Common.{◌≤◌, ◌≡◌, max, drop}
use Rattle.bsp_model.specs.Limits.{most_work}
use Rattle.bsp_causes.specs.Inside.Walk.{processes_of}
use Rattle.bsp_causes.specs.UpdateCost.{work_of}
use Rattle.bsp_causes.proofs.costs.work_of.Given as goal

-- the largest work so far, and the largest of what is left
abbrev pub invariant-loop-place : goal.invariant-loop-place
invariant-loop-place l = record {
  value : max l.most (work_of (processes_of (drop l.place-index l.places)) l.outcomes) ≡ work_of (processes_of l.places) l.outcomes;
  small : l.most ≤ most_work;
}
