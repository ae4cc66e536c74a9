use Rattle.std.proofs.Common.{◌∙◌, ◌++◌, Option, ap, get_or}
use Rattle.std.proofs.lemmas.List.{get_or_default}
use Rattle.bsp_model.specs.declared.cost.CostRow.{CostRow}
use Rattle.bsp_engine.specs.Changes.{other, piece_if, same_row}
use Rattle.bsp_engine.specs.Text.{cost_line}
use Rattle.bsp_engine.proofs.Changed.{others_told}
use Rattle.bsp_engine.proofs.change_lines.push_other_costs.Goals as goal

pub loop-step-preserved : goal.loop-step-preserved
loop-step-preserved c =
    let none : CostRow = record { work = 0; h = 0; cost = 0 } in
    let row = get_or c.args.news.now c.loop-step.step none in
    others_told cost_line same_row c.args.text.now.items _ _ c.args.olds.now c.args.news.now c.loop-step.step row c.loop-step-test.true (get_or_default c.args.news.now c.loop-step.step none _ c.loop-step-test.true) c.loop-step.invariant
    (c.in_ok-push_other_cost.ensures ∙ ap (λ (o : Option CostRow). c.loop-step.text.items ++ piece_if cost_line c.loop-step.step (other same_row o row)) c.item_at.ensures)
