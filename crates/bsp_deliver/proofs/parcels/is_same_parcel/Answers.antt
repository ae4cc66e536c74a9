use Rattle.std.proofs.Common.{sym, ◌∙◌}
use Rattle.std.proofs.lemmas.Bool.{false≢true}
use Rattle.bsp_deliver.proofs.parcels.is_same_parcel.Goals as goal

pub returns-then-are_same_puts : goal.returns-then-are_same_puts
returns-then-are_same_puts c = (
  λ t. record { puts = c.are_same_puts.ensures.0 c.if-are_same_puts.true; sends = c.are_same_sends.ensures.0 t },
  λ h. c.are_same_sends.ensures.1 h.sends,
)

pub returns-else-are_same_puts : goal.returns-else-are_same_puts
returns-else-are_same_puts c = (λ t. absurd (false≢true (sym c.if-are_same_puts.false ∙ t)), λ h. c.are_same_puts.ensures.1 h.puts)
