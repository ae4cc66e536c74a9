use Rattle.std.proofs.Common.{◌≡◌, ◌++◌, take}
use Rattle.bsp_run.specs.Result.{lines_of}
use Rattle.bsp_engine.specs.Changes.{other_lines, others, piece_if, same_lines}
use Rattle.bsp_text.specs.Lines.{numbered}
use Rattle.bsp_engine.proofs.changed_run.push_changed_lines.Given as goal

abbrev pub invariant-loop-pid : goal.invariant-loop-pid
invariant-loop-pid l = l.text.items ≡ l.initial.text.items ++ numbered (piece_if other_lines) 0 (others same_lines (lines_of l.old) (take l.pid (lines_of l.new)))
