use Rattle.std.proofs.Common.{◌≡◌, ◌≤◌, ◌+◌, ◌-◌, length, take, vec_len, vec_capacity}
use Rattle.bsp_model.proofs.memory.Memory.from_words.Given as goal

-- the pages so far, with room for the others
abbrev pub invariant-loop-part : goal.invariant-loop-part
invariant-loop-part l = record {
  made : l.pages.items ≡ take l.part-index l.full;
  room : vec_len l.pages + (length l.full - l.part-index) ≤ vec_capacity l.pages;
}
