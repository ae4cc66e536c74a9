use Rattle.std.proofs.Common.{◌≡◌, ◌++◌, [], length, ap, sym, ◌∙◌, arith}
use Rattle.std.proofs.lemmas.Result.{on_ok_weaker}
use Rattle.bsp_model.specs.Columns.{row_at, AreTaken}
use Rattle.bsp_model.proofs.Appending.{whole}
use Rattle.bsp_deliver.proofs.CellsOf.{length-cells_of, cells_of-more}
use Rattle.bsp_deliver.proofs.cells.Cells.append.Goals as goal

pub returns : goal.returns
returns c =
    let mine = c.self.inside in
    let more = c.more.inside in
    let taken : AreTaken [] (row_at mine.queues) (length mine.memories) (row_at more.queues) 0 (length more.memories) (row_at c.take_range.new.self) =
    rw (c.len-place.ensures, c.len-count.ensures) at c.in_ok-take_range.ensures.ok in
    on_ok_weaker c.append.result
    (λ (e : c.append.new.self ≡ mine.memories ++ more.memories).
    rw (e ∙ ap (λ ms. mine.memories ++ ms) (sym (whole more.memories (length more.memories) (omega arith))))
    (cells_of-more mine.memories more.memories mine.queues more.queues c.take_range.new.self c.args.self.now c.args.more.now 0 (length more.memories) (omega arith) c.self.view_is c.more.view_is taken
    ∙ ap (λ cs. c.args.self.now ++ cs) (whole c.args.more.now (length more.memories) (omega (arith, length-cells_of more.memories more.queues, ap length c.more.view_is)))))
    c.append.ensures.ok
