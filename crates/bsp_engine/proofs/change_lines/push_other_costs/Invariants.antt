use Rattle.std.proofs.Common.{◌≡◌, ◌++◌, take}
use Rattle.bsp_text.specs.Lines.{numbered}
use Rattle.bsp_engine.specs.Changes.{others, piece_if, same_row}
use Rattle.bsp_engine.specs.Text.{cost_line}
use Rattle.bsp_engine.proofs.change_lines.push_other_costs.Given as goal

abbrev pub invariant-loop-step : goal.invariant-loop-step
invariant-loop-step l = l.text.items ≡ l.initial.text.items ++ numbered (piece_if cost_line) 0 (others same_row l.olds (take l.step l.news))
