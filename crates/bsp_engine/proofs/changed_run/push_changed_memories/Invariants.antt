use Rattle.std.proofs.Common.{◌≡◌, ◌++◌, take}
use Rattle.bsp_run.specs.Result.{memories_of}
use Rattle.bsp_engine.specs.Changes.{others, piece_if}
use Rattle.bsp_model.specs.Same.{same_words}
use Rattle.bsp_text.specs.Lines.{numbered}
use Rattle.bsp_engine.specs.Text.{memory_line}
use Rattle.bsp_engine.proofs.changed_run.push_changed_memories.Given as goal

abbrev pub invariant-loop-pid : goal.invariant-loop-pid
invariant-loop-pid l = l.text.items ≡ l.initial.text.items ++ numbered (piece_if memory_line) 0 (others same_words (memories_of l.old) (take l.pid (memories_of l.new)))
