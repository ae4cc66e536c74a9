use Rattle.std.proofs.Common.{◌≡◌, ◌++◌, take}
use Rattle.bsp_engine.specs.Text.{print_lines}
use Rattle.bsp_engine.proofs.block_lines.push_lines.Given as goal

abbrev pub invariant-loop-place : goal.invariant-loop-place
invariant-loop-place l = l.text.items ≡ l.initial.text.items ++ print_lines l.pid (take l.place l.lines)
