-- The first words of the memories that were read have 64 bits.
use Rattle.std.proofs.Common.{List, get_or, ℕ, ◌<◌, ◌^◌}
use Rattle.bsp_right.proofs.programs.read_first_words.Given as goal

abbrev pub invariant-loop-memory : goal.invariant-loop-memory
invariant-loop-memory l = (k : ℕ) (d : List ℕ) → k < l.memory-index → get_or (get_or l.memories k d) 0 0 < 2 ^ 64
