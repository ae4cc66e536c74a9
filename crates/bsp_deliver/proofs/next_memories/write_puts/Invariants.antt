use Rattle.std.proofs.Common.{◌≡◌, take, fold}
use Rattle.bsp_deliver.specs.Inside.Gathering.{put_at}
use Rattle.bsp_deliver.proofs.next_memories.write_puts.Given as goal

abbrev pub invariant-loop-i : goal.invariant-loop-i
invariant-loop-i l = l.memories ≡ fold (put_at l.places) l.initial.memories (take l.i l.puts)
