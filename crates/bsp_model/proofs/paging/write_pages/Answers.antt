use Rattle.std.proofs.Common.{◌≡◌, ◌<◌, ◌+◌, ◌/◌, ◌%◌, ◌-◌, length, get_or, ◌∙◌, arith}
use Rattle.std.proofs.lemmas.List.{get_or_default}
use Rattle.std.proofs.lemmas.Bool.Decides.{nat_tests}
use Rattle.std.proofs.lemmas.Result.{on_ok_weaker}
use Rattle.bsp_model.specs.Inside.Pages.{paged_word, AreWritten}
use Rattle.bsp_model.proofs.Writes.{no_words, one_page, pages_replaced}
use Rattle.bsp_model.proofs.paging.write_pages.Goals as goal

pub returns-then-is_empty-clause-ok : goal.returns-then-is_empty-clause-ok
returns-then-is_empty-clause-ok c =
    let none : length c.args.words.now ≡ 0 = grind (arith, nat_tests) in
    λ i. no_words (paged_word c.args.pages.now) c.args.start i c.args.words.now none

pub returns-then-words-place-clause-ok : goal.returns-then-words-place-clause-ok
returns-then-words-place-clause-ok c =
    let some : 0 < length c.args.words.now = grind (arith, nat_tests) in
    on_ok_weaker {Q = AreWritten c.args.pages.now c.args.start c.args.words.now _} _
    (λ written. λ i. one_page c.args.pages.now (get_or c.args.pages.now (c.args.start / 64) c.index-pages-first.result) c.write.new.self c.args.words.now c.args.start (c.args.start / 64) (c.args.start % 64) i
    (omega arith) (omega arith) (omega arith)
    (get_or_default c.args.pages.now (c.args.start / 64) c.index-pages-first.result (get_or c.args.pages.now (c.args.start / 64) c.index-pages-first.result) (omega arith))
    c.write.ensures.len written)
    c.write.ensures.ok

pub returns-clause-ok : goal.returns-clause-ok
returns-clause-ok c =
    pages_replaced c.args.pages.now c.in_ok-new.new.items _ c.args.words.now c.args.start (c.args.start / 64) (c.args.start % 64) ((c.args.start % 64 + length c.args.words.now - 1) / 64 + 1) _
    (omega arith) (omega arith) (omega arith) (omega arith) c.in_ok-new.ensures.count (omega arith)
    (c.swap_with_slice.ensures.after ∙ c.as_mut_slice.ensures.value) c.in_ok-new.ensures.words
