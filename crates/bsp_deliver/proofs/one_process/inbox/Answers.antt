use Rattle.bsp_deliver.specs.Delivery.{delivery_parts}
use Rattle.bsp_deliver.proofs.one_process.inbox.Goals as goal

pub returns : goal.returns
unfolding delivery_parts
returns c = λ i. record { puts = c.in_ok-puts.ensures i; sends = c.in_ok-sends.ensures.sends i }
