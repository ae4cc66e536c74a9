-- What others send to a process.
use Rattle.std.specs.Prelude.{ℕ, List}
use Rattle.bsp_model.specs.declared.request.Put.{Put}
use Rattle.bsp_model.specs.declared.request.Send.{Send}
use Rattle.bsp_deliver.specs.Delivery.{DeliveryParts}

-- The puts and the messages to one process, each with its sender, by sender, then by issue.
pub record InboxParts : Type 0 where
  pub puts : List (ℕ × Put)
  pub sends : List (ℕ × Send)

-- the inbox among all that a delivery depends on
abbrev pub inbox_of : DeliveryParts → InboxParts
inbox_of parts = record { puts = parts.puts; sends = parts.sends }
