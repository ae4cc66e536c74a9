use Rattle.bsp_engine.specs.Text.{print_lines}
use Rattle.bsp_text.proofs.Numbering.{numbered_grows}
use Rattle.bsp_engine.proofs.block_lines.push_all_lines.Goals as goal

pub loop-pid-preserved : goal.loop-pid-preserved
loop-pid-preserved c =
    numbered_grows print_lines _ _ _ c.args.lines.now c.loop-pid.pid c.index-lines-pid.result c.loop-pid-test.true c.index-lines-pid.is c.loop-pid.invariant c.in_ok-push_lines.ensures
