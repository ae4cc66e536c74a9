use Rattle.std.proofs.Common.{◌≡◌, ◌==◌, take, filter, map}
use Rattle.bsp_deliver.specs.Requests.{all_sends}
use Rattle.bsp_deliver.specs.Delivery.{message_of}
use Rattle.bsp_deliver.proofs.Queues.{IsQueueOf}
use Rattle.bsp_deliver.proofs.inboxes.sends_to.Given as goal

-- the messages to d of the senders so far
abbrev pub invariant-loop-sender : goal.invariant-loop-sender
invariant-loop-sender l = record {
  sends : l.sends ≡ filter (λ m. m.1.target == l.d) (all_sends (take l.sender l.outcomes));
  limits : IsQueueOf l.sender (map (λ m. message_of m.1) l.sends);
}
