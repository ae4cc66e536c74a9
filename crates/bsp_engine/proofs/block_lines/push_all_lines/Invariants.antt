use Rattle.std.proofs.Common.{◌≡◌, ◌++◌, take}
use Rattle.bsp_text.specs.Lines.{numbered}
use Rattle.bsp_engine.specs.Text.{print_lines}
use Rattle.bsp_engine.proofs.block_lines.push_all_lines.Given as goal

abbrev pub invariant-loop-pid : goal.invariant-loop-pid
invariant-loop-pid l = l.text.items ≡ l.initial.text.items ++ numbered print_lines 0 (take l.pid l.lines)
