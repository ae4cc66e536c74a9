use Rattle.std.proofs.Common.{ap, sym, arith, ◌∙◌}
use Rattle.bsp_pool.specs.Passes.{PassContent}
use Rattle.bsp_pool.proofs.ClaimSteps.{shares}
use Rattle.bsp_pool.proofs.deck.Deck.share.Goals as goal

pub split_seat-requires : goal.split_seat-requires
split_seat-requires c = (
  ap (λ (p : PassContent). p.deck) c.pass.view_is ∙ (c.requires ∙ sym c.self.view_is),
  omega (arith, c.self.invariant.0),
  λ s h at. shares s.words s.views c.pass.inside.seat.id c.pass.inside.seat.me.0 h at,
)
