use Rattle.std.proofs.Common.{◌≡◌, ◌≤◌, ◌++◌, [], length, ap, arith}
use Rattle.std.specs.Prelude.{slice_range}
use Rattle.std.proofs.lemmas.Result.{MatchResult-from_err, IfErr-weaker, on_ok_weaker}
use Rattle.bsp_model.specs.Columns.{row_at, AreTaken}
use Rattle.bsp_deliver.proofs.CellsOf.{length-cells_of, cells_of-same, cells_of-more}
use Rattle.bsp_deliver.proofs.cells.CellsByProcess.append_range.Goals as goal

pub append_range-requires-clause-inside : goal.append_range-requires-clause-inside
append_range-requires-clause-inside c = omega (arith, c.requires.inside, length-cells_of c.more.inside.memories c.more.inside.queues, ap length c.more.view_is)

pub returns-in_err-take_range-clause-err : goal.returns-in_err-take_range-clause-err
returns-in_err-take_range-clause-err c =
    MatchResult-from_err _ _ _ c.from_residual.ensures.0
    (λ _. cells_of-same c.self.inside.memories c.self.inside.queues c.take_range.new.self c.args.self.now c.self.view_is (λ k within. c.in_err-take_range.ensures.err.before k (omega (arith, within, c.len.ensures))))

pub returns-clause-err : goal.returns-clause-err
returns-clause-err c =
    IfErr-weaker c.append_range.result _ _
    (λ _ (e : c.append_range.new.self ≡ c.self.inside.memories). rw e (cells_of-same c.self.inside.memories c.self.inside.queues c.take_range.new.self c.args.self.now c.self.view_is (λ k within. c.in_ok-take_range.ensures.ok.before k (omega (arith, within, c.len.ensures)))))
    c.append_range.ensures.err

pub returns-clause-ok : goal.returns-clause-ok
returns-clause-ok c =
    let within : c.args.to ≤ length c.more.inside.memories = omega (arith, c.requires.inside, length-cells_of c.more.inside.memories c.more.inside.queues, ap length c.more.view_is) in
    let taken : AreTaken [] (row_at c.self.inside.queues) (length c.self.inside.memories) (row_at c.more.inside.queues) c.args.from c.args.to (row_at c.take_range.new.self) =
    rw c.len.ensures at c.in_ok-take_range.ensures.ok in
    on_ok_weaker c.append_range.result
    (λ (e : c.append_range.new.self ≡ c.self.inside.memories ++ slice_range c.more.inside.memories c.args.from c.args.to). rw e
    (cells_of-more c.self.inside.memories c.more.inside.memories c.self.inside.queues c.more.inside.queues c.take_range.new.self c.args.self.now c.args.more.now c.args.from c.args.to within c.self.view_is c.more.view_is taken))
    c.append_range.ensures.ok
