use Rattle.std.proofs.Common.{sym, ◌∙◌, arith}
use Rattle.std.proofs.lemmas.Bool.{false≢true}
use Rattle.bsp_model.proofs.Pages.{same_more, same_page}
use Rattle.bsp_model.proofs.paging.are_same_pages.Goals as goal

pub returns-then-not-is_same : goal.returns-then-not-is_same
returns-then-not-is_same c = (
  λ h. absurd (false≢true h),
  λ h.
      let same = same_page c.args.pages.now c.args.others.now c.index-pages-k.result c.index-others-k.result c.loop-k.k c.index-pages-k.is c.index-others-k.is (omega arith) (omega arith) c.is_same.ensures.len c.is_same.ensures.other_len h in
      absurd (false≢true (sym c.if-not-is_same.true ∙ c.is_same.ensures.same.1 same)),
)

pub loop-k-preserved : goal.loop-k-preserved
loop-k-preserved c =
    same_more c.args.pages.now c.args.others.now c.index-pages-k.result c.index-others-k.result c.loop-k.k c.index-pages-k.is c.index-others-k.is (omega arith) (omega arith)
    (c.is_same.ensures.same.0 c.if-not-is_same.false) c.loop-k.invariant
