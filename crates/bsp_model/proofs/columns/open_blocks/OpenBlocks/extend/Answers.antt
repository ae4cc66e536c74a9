use Rattle.std.proofs.Common.{◌<◌, ◌++◌, ◌∷◌, [], length, take, ap, sym, ◌∙◌, arith, append_assoc}
use Rattle.std.proofs.lemmas.List.{take_more}
use Rattle.std.proofs.lemmas.Option.{get_or_from_slice_get}
use Rattle.bsp_model.specs.Opened.{Opened}
use Rattle.bsp_model.proofs.columns.open_blocks.OpenBlocks.extend.Goals as goal

pub loop-place-preserved : goal.loop-place-preserved
loop-place-preserved g c =
    let old = c.args.self.now.last in
    let more = c.args.more.now in
    let k = c.loop-place.place in
    let block = g.X.Block.of (c.parts.result.0.now, c.parts.result.1.now) in
    let within : k < length more = omega (arith, c.loop-place-test.true, c.len-place-end.ensures) in
    let there = get_or_from_slice_get more k block block c.parts.ensures.is in
    let so_far = ap (λ b. take k more ++ b ∷ []) (sym there) ∙ sym (take_more more k block within) in
    c.in_ok-add_block.ensures.ok
    ∙ ap (λ (o : Opened _). record o { last = o.last ++ block ∷ [] }) c.loop-place.invariant
    ∙ ap (λ bs. record c.args.self.now { last = bs }) (append_assoc old (take k more) (block ∷ []) ∙ ap (λ bs. old ++ bs) so_far)
