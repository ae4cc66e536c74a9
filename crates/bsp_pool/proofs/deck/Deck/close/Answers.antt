use Rattle.std.proofs.Common.{ap, ◌∙◌, ◌≡◌, ◌≤◌, ◌<◌, subst}
use Rattle.std.specs.Prelude.{All}
use Rattle.std.specs.Slots.{slots_items}
use Rattle.bsp_pool.specs.Passes.{PassContent}
use Rattle.bsp_pool.specs.Numbers.{occurrences}
use Rattle.bsp_pool.proofs.ClaimSteps.{closes, closes_distinct, closes_below, closes_whole}
use Rattle.bsp_pool.proofs.deck.Deck.close.Goals as goal

pub returns-clause-distinct : goal.returns-clause-distinct
returns-clause-distinct c = λ x.
    let told = closes c.pass.inside.seat.id c.pass.inside.seat.me.0 (slots_items c.close_with-closed.result.words) (slots_items c.close_with-closed.result.slots) c.word-drawn.result c.close_with-closed.ensures.values.2 c.word-drawn.ensures in
    subst (λ (p : PassContent). occurrences x p.numbers ≤ 1) c.pass.view_is (closes_distinct _ _ _ told x)

pub returns-clause-below : goal.returns-clause-below
returns-clause-below c =
    let told = closes c.pass.inside.seat.id c.pass.inside.seat.me.0 (slots_items c.close_with-closed.result.words) (slots_items c.close_with-closed.result.slots) c.word-drawn.result c.close_with-closed.ensures.values.2 c.word-drawn.ensures in
    subst (λ (p : PassContent). All (λ x. x < c.word-drawn.result) p.numbers) c.pass.view_is (closes_below _ _ _ told)

pub returns-clause-whole : goal.returns-clause-whole
returns-clause-whole c = λ all x lt.
    let told = closes c.pass.inside.seat.id c.pass.inside.seat.me.0 (slots_items c.close_with-closed.result.words) (slots_items c.close_with-closed.result.slots) c.word-drawn.result c.close_with-closed.ensures.values.2 c.word-drawn.ensures in
    subst (λ (p : PassContent). occurrences x p.numbers ≡ 1) c.pass.view_is (closes_whole _ _ _ told (ap (λ (p : PassContent). p.units) c.pass.view_is ∙ all) x lt)
