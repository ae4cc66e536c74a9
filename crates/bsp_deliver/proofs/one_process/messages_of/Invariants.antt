use Rattle.std.proofs.Common.{◌≡◌, take, map}
use Rattle.bsp_deliver.specs.Delivery.{message_of}
use Rattle.bsp_deliver.proofs.one_process.messages_of.Given as goal

-- the messages of the sends so far
abbrev pub invariant-loop-send : goal.invariant-loop-send
invariant-loop-send l = l.queue ≡ map (λ m. message_of m.1) (take l.send-index l.sends)
