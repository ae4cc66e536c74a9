use Rattle.std.proofs.Common.{◌<◌, ◌*◌, length, refl, ap, sym, arith, subst, ◌∙◌}
use Rattle.bsp_pool.proofs.deck.Deck.draw.Goals as goal
use Rattle.bsp_pool.proofs.ClaimSteps.{drawn_next, drawn_above}
use Rattle.bsp_pool.specs.Inside.Claim.{view_of}
use Rattle.atomic_table.specs.Table.{keeps}
use Rattle.bsp_pool.specs.Passes.{PassContent}
use Rattle.std.specs.Prelude.{slice_index, ◌++◌, ◌∷◌, []}

pub fetch_add-requires : goal.fetch_add-requires
fetch_add-requires c =
    let v = c.pass.inside.seat.me.0 in
    let some_room : length v.numbers < v.units * 4294967296 = subst (λ (p : PassContent). length p.numbers < p.units * 4294967296) (sym c.pass.view_is) c.requires.room in (
      ap (λ (p : PassContent). p.deck) c.pass.view_is ∙ (c.requires.deck ∙ sym c.self.view_is),
      omega (arith, c.self.invariant.0),
      λ s h _ at _. (
        view_of v.units (v.numbers ++ slice_index s.words 8 ∷ []),
        keeps,
        tt,
        drawn_next s.words s.views c.pass.inside.seat.id v some_room h at,
        (record { above = drawn_above s.words s.views c.pass.inside.seat.id v h at; after = refl }, refl),
      ),
    )
