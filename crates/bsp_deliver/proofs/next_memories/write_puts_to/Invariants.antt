use Rattle.std.proofs.Common.{◌≡◌, ◌-◌, length}
use Rattle.bsp_deliver.proofs.SkippedSenders.{after_senders}
use Rattle.bsp_deliver.proofs.next_memories.write_puts_to.Given as goal

-- The puts of the senders so far are written.
abbrev pub invariant-loop-sender : goal.invariant-loop-sender
invariant-loop-sender l = l.memories ≡ after_senders l.places l.initial.memories l.outcomes l.sender

abbrev pub decreases-loop-sender : goal.decreases-loop-sender
decreases-loop-sender l = length l.outcomes - l.sender
