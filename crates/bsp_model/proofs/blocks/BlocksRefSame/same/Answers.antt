use Rattle.std.proofs.Common.{sym, ap, ◌∙◌}
use Rattle.std.proofs.lemmas.Bool.{false≢true}
use Rattle.bsp_model.specs.Inside.Blocks.{blocks_of}
use Rattle.bsp_model.proofs.BlocksOf.{same_blocks}
use Rattle.bsp_model.proofs.blocks.BlocksRefSame.same.Goals as goal

pub returns-then-are_same : goal.returns-then-are_same
returns-then-are_same g c =
    let t = g.X.Block in
    let heads = c.are_same.ensures in
    let words = c.are_same_words.ensures in (
      λ h.
          sym c.self.view_is
          ∙ ap (λ hs. blocks_of t.of hs c.self.inside.words.now) (heads.0 c.if-are_same.true)
          ∙ ap (blocks_of t.of c.other.inside.heads.now) (words.0 h)
          ∙ c.other.view_is,
      λ h. words.1 (same_blocks t.of t.row_of t.IsKept t.kept _ _ _ _ c.self.invariant c.other.invariant (c.self.view_is ∙ h ∙ sym c.other.view_is)).1,
    )

pub returns-else-are_same : goal.returns-else-are_same
returns-else-are_same g c =
    let t = g.X.Block in
    let heads = c.are_same.ensures in (
      λ h. absurd (false≢true (sym c.if-are_same.false ∙ h)),
      λ h. heads.1 (same_blocks t.of t.row_of t.IsKept t.kept _ _ _ _ c.self.invariant c.other.invariant (c.self.view_is ∙ h ∙ sym c.other.view_is)).0,
    )
