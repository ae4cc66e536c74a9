use Rattle.std.proofs.Common.{◌≡◌, ◌++◌, take}
use Rattle.std.specs.List.{flat_map}
use Rattle.bsp_engine.specs.WhyLines.{step_cost_line}
use Rattle.bsp_engine.proofs.update_lines.push_costs.Given as goal

abbrev pub invariant-loop-step : goal.invariant-loop-step
invariant-loop-step l = l.text.items ≡ l.initial.text.items ++ flat_map step_cost_line (take l.step-index l.cost.rows)
