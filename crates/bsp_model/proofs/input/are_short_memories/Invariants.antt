use Rattle.std.proofs.Common.{◌≡◌, length, take, true}
use Rattle.std.specs.Prelude.{nat_le}
use Rattle.std.specs.List.{list_all}
use Rattle.bsp_model.specs.Limits.{most_memory_words}
use Rattle.bsp_model.proofs.input.are_short_memories.Given as goal

abbrev pub invariant-loop-memory : goal.invariant-loop-memory
invariant-loop-memory l = list_all (λ ws. nat_le (length ws) most_memory_words) (take l.memory-index l.mems) ≡ true
