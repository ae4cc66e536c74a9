use Rattle.std.proofs.Common.{◌≡◌, sym, ap, ◌∙◌, arith}
use Rattle.std.proofs.lemmas.List.{get_or_default}
use Rattle.bsp_model.specs.Inside.Blocks.{start_at}
use Rattle.bsp_model.proofs.RowRanges.{start_after, start_below, end_below}
use Rattle.bsp_model.proofs.blocks.bounds.Goals as goal
use Rattle.bsp_model.proofs.blocks.bounds.Goals.{then-place-eq0, else-place-eq0}

pub returns : goal.returns
returns g c =
    let heads = c.args.heads.now in
    let place = c.args.place in
    let head = c.index-heads-place-2.result in
    let start : c.if-place-eq0.start ≡ start_at place 0 heads =
    elim c.if-place-eq0.branch [
      | then-place-eq0 w ↦ w.start-is ∙ ap (λ i. start_at i 0 heads) (sym w.if-place-eq0.true)
      | else-place-eq0 w ↦ w.start-is ∙ ap (λ h. h.1) (sym w.index-heads-place.is) ∙ sym (start_after place 0 heads w.index-heads-place.result w.if-place-eq0.false c.requires.known w.index-heads-place.is)
    ] in
    record {
      start = start;
      end = λ other. ap (λ h. h.1) (get_or_default heads place head other c.requires.known);
      order = omega (arith, start, start_below place 0 heads c.args.count head c.requires.ends c.requires.known c.index-heads-place-2.is, ap (λ h. h.1) c.index-heads-place-2.is);
      inside = omega (arith, end_below place 0 heads c.args.count head c.requires.ends c.requires.known c.index-heads-place-2.is, ap (λ h. h.1) c.index-heads-place-2.is);
    }
