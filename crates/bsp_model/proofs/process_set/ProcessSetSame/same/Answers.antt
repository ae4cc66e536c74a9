use Rattle.std.proofs.Common.{◌≡◌, ◌∙◌, ℕ, Bool, List, ap, length, sym}
use Rattle.std.proofs.lemmas.Bool.{eqb-true, eq-eqb}
use Rattle.bsp_model.specs.Inside.Bits.{set_of, word_of, AreBitsOf}
use Rattle.bsp_model.specs.Inside.WordsOfSets.{set_again}
use Rattle.bsp_model.proofs.process_set.ProcessSetSame.same.Goals as goal

fields_of : (count bits : ℕ) (set : List Bool) → AreBitsOf count bits → set_of count bits ≡ set → (length set ≡ count) × (word_of set ≡ bits)
fields_of count bits set are is = (ap length (sym is) ∙ set_again (λ n w. n) count bits are, ap word_of (sym is) ∙ set_again (λ n w. w) count bits are)

pub returns-then-self-other : goal.returns-then-self-other
returns-then-self-other c =
    let s = c.self.inside in
    let o = c.other.inside in
    let own = fields_of s.count s.bits c.args.self.now c.self.invariant c.self.view_is in
    let others = fields_of o.count o.bits c.args.other.now c.other.invariant c.other.view_is in (
      λ same. sym c.self.view_is ∙ ap (λ n. set_of n s.bits) c.if-self-other.true ∙ ap (set_of o.count) (eqb-true s.bits o.bits same) ∙ c.other.view_is,
      λ equal. eq-eqb s.bits o.bits (sym own.1 ∙ ap word_of equal ∙ others.1),
    )

pub returns-else-self-other : goal.returns-else-self-other
returns-else-self-other c =
    let s = c.self.inside in
    let o = c.other.inside in
    let own = fields_of s.count s.bits c.args.self.now c.self.invariant c.self.view_is in
    let others = fields_of o.count o.bits c.args.other.now c.other.invariant c.other.view_is in (
      λ same. absurd (c.if-self-other.false (eqb-true s.count o.count same)),
      λ equal. eq-eqb s.count o.count (sym own.0 ∙ ap (λ (set : List Bool). length set) equal ∙ others.0),
    )
