use Rattle.std.proofs.Common.{◌≡◌, ◌++◌, ◌∷◌, [], length, arith}
use Rattle.std.proofs.lemmas.Result.{MatchResult-from_err, on_ok_weaker, on_err_weaker}
use Rattle.bsp_model.specs.Columns.{row_at, IsPut}
use Rattle.bsp_model.proofs.EitherWay.{in_both}
use Rattle.bsp_model.proofs.PagedMemories.{ArePaged-same, memories_of-same, ArePaged-push, memories_of-push}
use Rattle.bsp_model.proofs.memories.Memories.push_copy.Goals as goal

pub invariant_of-self : goal.invariant_of-self
invariant_of-self c = ArePaged-same c.self.inside.pages c.put.new.self c.self.inside.lasts c.self.invariant (λ k within. c.in_err-put.ensures.err.before k (omega (arith, within, c.len.ensures)))

pub returns-in_err-put-clause-err : goal.returns-in_err-put-clause-err
returns-in_err-put-clause-err c =
    MatchResult-from_err _ _ _ c.from_residual-in_err-put.ensures.0
    (λ _. memories_of-same c.self.inside.pages c.put.new.self c.self.inside.lasts c.args.self.now c.self.view_is (λ k within. c.in_err-put.ensures.err.before k (omega (arith, within, c.len.ensures))))

pub returns-clause-err : goal.returns-clause-err
returns-clause-err c =
    on_err_weaker _
    (λ (same : c.push.new.self ≡ c.self.inside.lasts). rw same
    (memories_of-same c.self.inside.pages c.put.new.self c.self.inside.lasts c.args.self.now c.self.view_is (λ k within. c.in_ok-put.ensures.ok.before k (omega (arith, within, c.len.ensures)))))
    c.push.ensures.err

pub invariant_of-self-2 : goal.invariant_of-self-2
invariant_of-self-2 c =
    let put : IsPut [] (row_at c.self.inside.pages) (length c.self.inside.lasts) c.memory.inside.pages.now (row_at c.put.new.self) = rw (c.len.ensures, c.in_ok-full.ensures) at c.in_ok-put.ensures.ok in
    in_both _
    (λ (more : c.push.new.self ≡ c.self.inside.lasts ++ c.memory.inside.last.now ∷ []). rw more
    (ArePaged-push c.self.inside.pages c.put.new.self c.self.inside.lasts c.memory.inside.pages.now c.memory.inside.last.now c.memory.inside.len c.self.invariant put c.memory.invariant))
    (λ (same : c.push.new.self ≡ c.self.inside.lasts). rw same (ArePaged-same c.self.inside.pages c.put.new.self c.self.inside.lasts c.self.invariant (λ k within. c.in_ok-put.ensures.ok.before k (omega (arith, within, c.len.ensures)))))
    c.push.ensures.ok c.push.ensures.err

pub returns-clause-ok : goal.returns-clause-ok
returns-clause-ok c =
    let put : IsPut [] (row_at c.self.inside.pages) (length c.self.inside.lasts) c.memory.inside.pages.now (row_at c.put.new.self) = rw (c.len.ensures, c.in_ok-full.ensures) at c.in_ok-put.ensures.ok in
    on_ok_weaker _
    (λ (more : c.push.new.self ≡ c.self.inside.lasts ++ c.memory.inside.last.now ∷ []). rw more
    (memories_of-push c.self.inside.pages c.put.new.self c.self.inside.lasts c.args.self.now c.memory.inside.pages.now c.memory.inside.last.now _ c.memory.inside.len c.self.view_is put c.memory.invariant c.memory.view_is))
    c.push.ensures.ok
