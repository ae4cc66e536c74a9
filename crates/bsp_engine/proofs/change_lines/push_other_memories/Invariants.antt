use Rattle.std.proofs.Common.{◌≡◌, ◌++◌, [], option_map, take, unwrap_or}
use Rattle.bsp_text.specs.Lines.{numbered}
use Rattle.bsp_engine.specs.Changes.{others, piece_if}
use Rattle.bsp_model.specs.Same.{same_words}
use Rattle.bsp_engine.specs.Text.{memory_line}
use Rattle.bsp_engine.proofs.change_lines.push_other_memories.Given as goal

abbrev pub invariant-loop-pid : goal.invariant-loop-pid
invariant-loop-pid l = l.text.items ≡ l.initial.text.items ++ numbered (piece_if memory_line) 0 (others same_words (unwrap_or (option_map (λ m. m.now) l.olds) []) (take l.pid l.news))
