use Rattle.std.proofs.Common.{◌≡◌, ◌≤◌, ◌+◌, ◌-◌, ◌++◌, length, take, vec_len, vec_capacity}
use Rattle.bsp_model.proofs.seq.append_copies.Given as goal

-- the copies so far, with room for the others
abbrev pub invariant-loop-item : goal.invariant-loop-item
invariant-loop-item g l = record {
  copied : l.items.items ≡ l.initial.items.items ++ take l.item-index l.more;
  room : vec_len l.items + (length l.more - l.item-index) ≤ vec_capacity l.items;
}
