-- An inbox's parts, from its fields.
use Rattle.std.specs.Prelude.{map}
use Rattle.bsp_step.specs.ViewParts.{IsQueue}
use Rattle.bsp_deliver.specs.declared.inboxes.Inbox.TheInside.{Inside}
use Rattle.bsp_deliver.specs.Delivery.{message_of}
use Rattle.bsp_deliver.specs.Inbox.{InboxParts}

abbrev pub inbox_parts : Inside → InboxParts
inbox_parts i = record { puts = i.puts; sends = i.sends }

-- the messages keep the limits of a queue
abbrev pub FitsInQueue : Inside → Type 0
FitsInQueue i = IsQueue (map (λ m. message_of m.1) i.sends)
