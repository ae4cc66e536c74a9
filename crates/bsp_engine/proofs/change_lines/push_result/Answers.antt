use Rattle.bsp_engine.proofs.Telling.{result_told}
use Rattle.bsp_engine.proofs.change_lines.push_result.Goals as goal

pub returns : goal.returns
returns c =
    result_told c.push_line.result c.args.run.now c.as_slice.result.now c.as_slice-2.result.now c.args.text.now.items _ _ _ _ _ c.as_slice.ensures c.as_slice-2.ensures
    c.in_ok-push_status.ensures c.in_ok-push_other_memories.ensures c.in_ok-push_all_lines.ensures c.in_ok-push_other_costs.ensures c.push_line.ensures
