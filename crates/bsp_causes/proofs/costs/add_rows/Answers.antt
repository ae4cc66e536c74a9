use Rattle.std.proofs.Common.{◌<◌, ◌∙◌, length, ap, arith, subst, sym}
use Rattle.std.specs.Prelude.{option_map}
use Rattle.std.proofs.Common.{Bor}
use Rattle.bsp_run.specs.Run.{Run}
use Rattle.bsp_run.specs.Supersteps.{supersteps_of}
use Rattle.bsp_causes.specs.Inside.Walk.{processes_of}
use Rattle.bsp_causes.specs.UpdateCost.{processes_at}
use Rattle.bsp_causes.specs.Inside.Walk.{AreBySuperstep, rows_at, with_rows}
use Rattle.bsp_causes.proofs.Rows.{rows_more}
use Rattle.bsp_causes.proofs.Walks.{between, by_superstep}
use Rattle.bsp_causes.proofs.costs.add_rows.Goals as goal

pub end_of-turn_end-requires-clause-in_order : goal.end_of-turn_end-requires-clause-in_order
end_of-turn_end-requires-clause-in_order c = subst AreBySuperstep (sym c.as_slice-turns.ensures) (by_superstep c.args.update.now.executed c.requires.executed)

pub end_of-delivery_end-requires-clause-in_order : goal.end_of-delivery_end-requires-clause-in_order
end_of-delivery_end-requires-clause-in_order c =
    subst AreBySuperstep (sym c.as_slice-deliveries.ensures) (by_superstep c.args.update.now.redelivered c.requires.redelivered)

pub loop-step-preserved : goal.loop-step-preserved
loop-step-preserved c =
    let old = option_map (λ (h : Bor Run). h.now) c.args.old in
    let new = c.args.new.now in
    let step = c.loop-step.step in
    let walk = c.loop-step.invariant in
    let turned =
    ap processes_of (between c.as_slice-turns.result.now step c.loop-step.turn c.end_of-turn_end.result c.end_of-turn_end.ensures.later walk.turns c.end_of-turn_end.ensures.end)
    ∙ ap (λ ps. processes_at ps step) c.as_slice-turns.ensures in
    let delivered =
    ap processes_of (between c.as_slice-deliveries.result.now step c.loop-step.delivery c.end_of-delivery_end.result c.end_of-delivery_end.ensures.later walk.deliveries c.end_of-delivery_end.ensures.end)
    ∙ ap (λ ps. processes_at ps step) c.as_slice-deliveries.ensures in
    record {
      rows =
          rows_more old new c.args.update.now step c.args.cost.now c.loop-step.cost c.add_row.new.cost walk.rows
          (c.in_ok-add_row.ensures.rows ∙ (λ i. with_rows c.loop-step.cost (rows_at old new step (turned i) (delivered i))));
      small = omega (arith, c.in_ok-add_row.ensures.small, walk.small);
      turns = c.end_of-turn_end.ensures.end;
      deliveries = c.end_of-delivery_end.ensures.end;
    }
