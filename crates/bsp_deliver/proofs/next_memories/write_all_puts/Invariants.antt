use Rattle.std.proofs.Common.{◌≡◌, take, fold}
use Rattle.bsp_deliver.specs.Requests.{all_puts}
use Rattle.bsp_deliver.specs.Inside.Gathering.{put_at}
use Rattle.bsp_deliver.proofs.next_memories.write_all_puts.Given as goal

-- The puts of the senders so far are written.
abbrev pub invariant-loop-sender : goal.invariant-loop-sender
invariant-loop-sender l = l.memories ≡ fold (λ ms s. put_at l.places ms s.1) l.initial.memories (all_puts (take l.sender l.outcomes))
