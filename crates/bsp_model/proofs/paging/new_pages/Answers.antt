use Rattle.std.proofs.Common.{rules, refl, arith}
use Rattle.bsp_model.proofs.Writes.{new_page_more}
use Rattle.bsp_model.proofs.paging.new_pages.Goals as goal

pub loop-k-preserved : goal.loop-k-preserved
loop-k-preserved c = record {
  count = search rules;
  room = search rules;
  words =
      rw c.push_reserved.ensures.items
      (new_page_more c.args.pages.now c.loop-k.new.items c.index-pages-first.result c.write.new.self c.args.words.now _ c.args.first c.args.start c.loop-k.k
      c.saturating_sub-before.result c.saturating_sub-place.result c.min-here.result _
      c.loop-k.invariant.count c.requires.start
      (search rules) (search rules) (search rules) (omega arith) (omega arith)
      c.index-pages-first.is (rw c.in_ok-page.ensures at c.in_ok-write.ensures.len)
      (omega arith) refl (rw c.in_ok-page.ensures at c.in_ok-write.ensures.ok) c.loop-k.invariant.words);
}
