use Rattle.std.proofs.Common.{◌≡◌, ◌≤◌, ◌*◌}
use Rattle.std.specs.Prelude.{option_map}
use Rattle.bsp_model.specs.Limits.{most_cost}
use Rattle.bsp_causes.specs.Inside.Walk.{BeginsAt, rows_below, with_rows}
use Rattle.bsp_causes.proofs.costs.add_rows.Given as goal

-- the rows of the supersteps so far are there, and the places of this one begin where both walks stand
abbrev pub invariant-loop-step : goal.invariant-loop-step
invariant-loop-step l = record {
  rows : l.cost ≡ with_rows l.initial.cost (rows_below (option_map (λ h. h.now) l.old) l.new l.update l.step);
  small : l.cost.total ≤ l.step * most_cost;
  turns : BeginsAt l.turns l.step l.turn;
  deliveries : BeginsAt l.deliveries l.step l.delivery;
}
