use Rattle.std.proofs.Common.{◌∙◌, Bor, List, ap, length, zero-add}
use Rattle.std.specs.Prelude.{option_map}
use Rattle.bsp_run.specs.Run.{Run}
use Rattle.bsp_run.specs.Supersteps.{supersteps_of}
use Rattle.bsp_causes.specs.declared.costs.StepCost.{StepCost}
use Rattle.bsp_causes.specs.UpdateCost.{total_again, update_cost}
use Rattle.bsp_causes.specs.Inside.Walk.{rows_below, with_rows}
use Rattle.bsp_causes.proofs.Handing.{and_given}
use Rattle.bsp_causes.proofs.costs.update_cost.Goals as goal

pub returns : goal.returns
unfolding update_cost
returns c =
    let new = c.args.new.now in
    let rows = rows_below (option_map (λ (h : Bor Run). h.now) c.args.old) new c.args.update.now (length (supersteps_of new)) in
    and_given c.add_rows-added.result c.add_rows-added.new.cost c.and.result _ c.and.ensures (λ added. added
    ∙ ap (λ (xs : List StepCost). with_rows (record { rows = xs; total = 0 }) rows) c.new.ensures
    ∙ (λ i. record { rows = rows; total = zero-add (total_again rows) i })) c.add_rows-added.ensures
