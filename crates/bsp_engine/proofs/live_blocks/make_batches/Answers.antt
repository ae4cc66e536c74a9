use Rattle.std.proofs.Common.{◌∙◌, ◌+◌, List, drop, ap, sym}
use Rattle.bsp_incr.specs.declared.edit.Edit.{Edit}
use Rattle.bsp_engine.specs.Live.{after_batches}
use Rattle.bsp_engine.proofs.Made.{block_more, drop_item}
use Rattle.bsp_engine.proofs.live_blocks.make_batches.Goals as goal

pub loop-index-preserved : goal.loop-index-preserved
loop-index-preserved g c =
    let i = c.loop-index.index in
    let later = drop (i + 1) c.args.batches.now in
    let next = drop_item c.args.batches.now i c.index-batches-index.result c.as_slice.result.now c.loop-index-test.true c.index-batches-index.is c.as_slice.ensures in
    record {
      detail = ap (λ v. v.detail) c.in_ok-make_batch.ensures.after ∙ c.loop-index.invariant.detail;
      live =
          ap (λ v. after_batches v later) c.in_ok-make_batch.ensures.after
          ∙ ap (λ (bs : List (List Edit)). after_batches c.loop-index.live bs) (sym next) ∙ c.loop-index.invariant.live;
      text =
          block_more g.P.Program.acts g.P.Program.ending g.P.Program.looks c.args.live.now.detail i c.loop-index.live c.make_batch.new.live c.as_slice.result.now (drop i c.args.batches.now) later
          c.loop-index.text.items c.push_line.new.text.items c.make_batch.new.text.items c.loop-index.invariant.detail c.in_ok-make_batch.ensures.after next c.in_ok-push_line.ensures c.in_ok-make_batch.ensures.text
          ∙ c.loop-index.invariant.text;
    }
