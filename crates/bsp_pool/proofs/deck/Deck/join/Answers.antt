use Rattle.std.proofs.Common.{ap, sym, arith, ◌∙◌, refl, ◌≡◌, ◌≤◌, subst, List, ℕ}
use Rattle.std.specs.Prelude.{◌++◌}
use Rattle.atomic_table.specs.Table.{keeps}
use Rattle.bsp_pool.specs.Passes.{PassContent}
use Rattle.bsp_pool.specs.Numbers.{occurrences}
use Rattle.bsp_pool.specs.Inside.Claim.{once_below}
use Rattle.bsp_pool.specs.Inside.Views.{View}
use Rattle.bsp_pool.proofs.ClaimSteps.{joins, looked, looks_once, looks_whole, apart}
use Rattle.bsp_pool.proofs.deck.Deck.join.Goals as goal

pub join_seat-requires : goal.join_seat-requires
join_seat-requires c = (
  ap (λ (p : PassContent). p.deck) c.pass.view_is ∙ (c.requires.deck ∙ sym c.self.view_is),
  ap (λ (p : PassContent). p.deck) c.other.view_is ∙ (c.requires.other ∙ sym c.self.view_is),
  c.other.invariant,
  omega (arith, c.self.invariant.0),
  λ s h at other at'. joins s.words s.views c.pass.inside.seat.id c.pass.inside.seat.me.0 c.other.inside.seat.id c.other.inside.seat.me.0 h at other at',
)

pub load-requires : goal.load-requires
load-requires c = (
  c.join_seat.ensures.0 ∙ (ap (λ (p : PassContent). p.deck) c.pass.view_is ∙ (c.requires.deck ∙ sym c.self.view_is)),
  omega (arith, c.self.invariant.0),
  λ s h _ at _. (
    c.join_seat.new.seat.me.0,
    keeps,
    tt,
    looked s.words s.views c.join_seat.new.seat.id c.join_seat.new.seat.me.0 h at,
    (
      record {
        once = looks_once s.words s.views c.join_seat.new.seat.id c.join_seat.new.seat.me.0 h at;
        whole = looks_whole s.words s.views c.join_seat.new.seat.id c.join_seat.new.seat.me.0 h at;
        after = refl;
      },
      refl,
    ),
  ),
)

pub returns-clause-apart : goal.returns-clause-apart
returns-clause-apart c =
    let me = ap (λ m. m.0) c.join_seat.ensures.2 in
    let mine : c.pass.inside.seat.me.0.numbers ≡ c.args.pass.now.numbers = ap (λ (p : PassContent). p.numbers) c.pass.view_is in
    let theirs : c.other.inside.seat.me.0.numbers ≡ c.args.other.numbers = ap (λ (p : PassContent). p.numbers) c.other.view_is in
    λ x. apart x c.args.pass.now.numbers c.args.other.numbers c.load.result
    (subst (λ (l : List ℕ). occurrences x l ≤ once_below x c.load.result)
    (ap (λ (v : View). v.numbers) me ∙ (ap (λ l. l ++ c.other.inside.seat.me.0.numbers) mine ∙ ap (λ l. c.args.pass.now.numbers ++ l) theirs))
    (c.load.ensures.2.0.once x))
