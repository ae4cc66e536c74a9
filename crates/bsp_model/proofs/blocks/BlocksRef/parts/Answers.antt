use Rattle.std.proofs.Common.{◌≡◌, ◌<◌, length, sym, ap, ◌∙◌, arith, subst, Some}
use Rattle.std.specs.Prelude.{slice_range}
use Rattle.bsp_model.proofs.BlocksOf.{length-blocks, block_at, kept_at}
use Rattle.bsp_model.proofs.blocks.BlocksRef.parts.Goals as goal

pub bounds-start-requires-clause-known : goal.bounds-start-requires-clause-known
bounds-start-requires-clause-known g c = omega (arith, c.requires, length-blocks g.X.Block.of c.self.inside.heads.now c.self.inside.words.now, ap length c.self.view_is)

pub offset_bounds-heads-place : goal.offset_bounds-heads-place
offset_bounds-heads-place g c = omega (arith, c.requires, length-blocks g.X.Block.of c.self.inside.heads.now c.self.inside.words.now, ap length c.self.view_is)

pub bounds-heads-place : goal.bounds-heads-place
bounds-heads-place g c = omega (arith, c.requires, length-blocks g.X.Block.of c.self.inside.heads.now c.self.inside.words.now, ap length c.self.view_is)

pub returns-clause-is : goal.returns-clause-is
returns-clause-is g c =
    let heads = c.self.inside.heads.now in
    let words = c.self.inside.words.now in
    let place = c.args.place in
    let head = c.index-heads-place.result in
    let known : place < length heads = omega (arith, c.requires, length-blocks g.X.Block.of heads words, ap length c.self.view_is) in
    let end : c.bounds-start.result.1 ≡ head.1 = c.bounds-start.ensures.end head ∙ ap (λ h. h.1) (sym c.index-heads-place.is) in
    block_at g.X.Block.of heads words c.args.self.now place head c.self.view_is known c.index-heads-place.is
    ∙ ap (λ i. Some (g.X.Block.of (head.0, slice_range words i head.1))) (sym c.bounds-start.ensures.start)
    ∙ ap (λ j. Some (g.X.Block.of (head.0, slice_range words c.bounds-start.result.0 j))) (sym end)
    ∙ ap (λ h. Some (g.X.Block.of (h.0, slice_range words c.bounds-start.result.0 c.bounds-start.result.1))) c.index-heads-place.is

pub returns-clause-kept : goal.returns-clause-kept
returns-clause-kept g c =
    let heads = c.self.inside.heads.now in
    let words = c.self.inside.words.now in
    let place = c.args.place in
    let head = c.index-heads-place.result in
    let known : place < length heads = omega (arith, c.requires, length-blocks g.X.Block.of heads words, ap length c.self.view_is) in
    let end : c.bounds-start.result.1 ≡ head.1 = c.bounds-start.ensures.end head ∙ ap (λ h. h.1) (sym c.index-heads-place.is) in
    subst g.X.Block.IsKept
    (ap (λ i. (head.0, slice_range words i head.1)) (sym c.bounds-start.ensures.start)
    ∙ ap (λ j. (head.0, slice_range words c.bounds-start.result.0 j)) (sym end)
    ∙ ap (λ h. (h.0, slice_range words c.bounds-start.result.0 c.bounds-start.result.1)) c.index-heads-place.is)
    (kept_at g.X.Block.IsKept heads words place head c.self.invariant known c.index-heads-place.is)
