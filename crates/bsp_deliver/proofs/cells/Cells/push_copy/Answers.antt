use Rattle.std.proofs.Common.{◌≡◌, ◌++◌, ◌∷◌, [], length, arith}
use Rattle.std.proofs.lemmas.Result.{MatchResult-from_err, IfErr-weaker, on_ok_weaker}
use Rattle.bsp_model.specs.Columns.{row_at, IsPut}
use Rattle.bsp_deliver.proofs.CellsOf.{cells_of-same, cells_of-push}
use Rattle.bsp_deliver.proofs.cells.Cells.push_copy.Goals as goal

pub returns-in_err-put-clause-err : goal.returns-in_err-put-clause-err
returns-in_err-put-clause-err c =
    MatchResult-from_err _ _ _ c.from_residual.ensures.0
    (λ _. cells_of-same c.self.inside.memories c.self.inside.queues c.put.new.self c.args.self.now c.self.view_is (λ k within. c.in_err-put.ensures.err.before k (omega (arith, within, c.len.ensures))))

pub returns-clause-err : goal.returns-clause-err
returns-clause-err c =
    IfErr-weaker c.push_copy.result _ _
    (λ _ (e : c.push_copy.new.self ≡ c.self.inside.memories). rw e (cells_of-same c.self.inside.memories c.self.inside.queues c.put.new.self c.args.self.now c.self.view_is (λ k within. c.in_ok-put.ensures.ok.before k (omega (arith, within, c.len.ensures)))))
    c.push_copy.ensures.err

pub returns-clause-ok : goal.returns-clause-ok
returns-clause-ok c =
    let put : IsPut [] (row_at c.self.inside.queues) (length c.self.inside.memories) c.args.queue.now (row_at c.put.new.self) = rw c.len.ensures at c.in_ok-put.ensures.ok in
    on_ok_weaker c.push_copy.result
    (λ (e : c.push_copy.new.self ≡ c.self.inside.memories ++ c.args.memory.now ∷ []). rw e (cells_of-push c.self.inside.memories c.self.inside.queues c.put.new.self c.args.self.now _ c.args.queue.now c.self.view_is put))
    c.push_copy.ensures.ok
