use Rattle.std.proofs.Common.{◌≡◌, ◌≤◌, ◌++◌, [], length, ap, arith}
use Rattle.std.specs.Prelude.{slice_range}
use Rattle.std.proofs.lemmas.Result.{MatchResult-from_err, on_ok_weaker, on_err_weaker}
use Rattle.bsp_model.specs.Columns.{row_at, AreTaken}
use Rattle.bsp_model.proofs.EitherWay.{in_both}
use Rattle.bsp_model.proofs.PagedMemories.{length-memories_of, ArePaged-same, memories_of-same, ArePaged-more, memories_of-more}
use Rattle.bsp_model.proofs.memories.MemoriesByProcess.append_range.Goals as goal

pub append_range-requires-clause-inside : goal.append_range-requires-clause-inside
append_range-requires-clause-inside c =
    omega (arith, c.requires.inside, length-memories_of c.more.inside.pages c.more.inside.lasts, ap length c.more.view_is)

pub invariant_of-self : goal.invariant_of-self
invariant_of-self c = ArePaged-same c.self.inside.pages c.take_range.new.self c.self.inside.lasts c.self.invariant (λ k within. c.take_range.ensures.before k (omega (arith, within, c.len.ensures)))

pub returns-in_err-take_range-clause-err : goal.returns-in_err-take_range-clause-err
returns-in_err-take_range-clause-err c =
    MatchResult-from_err _ _ _ c.from_residual.ensures.0
    (λ _. memories_of-same c.self.inside.pages c.take_range.new.self c.self.inside.lasts c.args.self.now c.self.view_is (λ k within. c.take_range.ensures.before k (omega (arith, within, c.len.ensures))))

pub returns-clause-err : goal.returns-clause-err
returns-clause-err c =
    on_err_weaker _
    (λ (same : c.append_range.new.self ≡ c.self.inside.lasts). rw same
    (memories_of-same c.self.inside.pages c.take_range.new.self c.self.inside.lasts c.args.self.now c.self.view_is (λ k within. c.take_range.ensures.before k (omega (arith, within, c.len.ensures)))))
    c.append_range.ensures.err

pub invariant_of-self-2 : goal.invariant_of-self-2
invariant_of-self-2 c =
    let within : c.args.to ≤ length c.more.inside.lasts = omega (arith, c.requires.inside, length-memories_of c.more.inside.pages c.more.inside.lasts, ap length c.more.view_is) in
    let taken : AreTaken [] (row_at c.self.inside.pages) (length c.self.inside.lasts) (row_at c.more.inside.pages) c.args.from c.args.to (row_at c.take_range.new.self) =
    rw c.len.ensures at c.in_ok-take_range.ensures.ok in
    in_both _
    (λ (more : c.append_range.new.self ≡ c.self.inside.lasts ++ slice_range c.more.inside.lasts c.args.from c.args.to). rw more (ArePaged-more c.self.inside.pages c.more.inside.pages c.take_range.new.self c.self.inside.lasts c.more.inside.lasts c.args.from c.args.to within c.self.invariant c.more.invariant taken))
    (λ (same : c.append_range.new.self ≡ c.self.inside.lasts). rw same (ArePaged-same c.self.inside.pages c.take_range.new.self c.self.inside.lasts c.self.invariant (λ k within. c.take_range.ensures.before k (omega (arith, within, c.len.ensures)))))
    c.append_range.ensures.ok c.append_range.ensures.err

pub returns-clause-ok : goal.returns-clause-ok
returns-clause-ok c =
    let within : c.args.to ≤ length c.more.inside.lasts = omega (arith, c.requires.inside, length-memories_of c.more.inside.pages c.more.inside.lasts, ap length c.more.view_is) in
    let taken : AreTaken [] (row_at c.self.inside.pages) (length c.self.inside.lasts) (row_at c.more.inside.pages) c.args.from c.args.to (row_at c.take_range.new.self) =
    rw c.len.ensures at c.in_ok-take_range.ensures.ok in
    on_ok_weaker _
    (λ (more : c.append_range.new.self ≡ c.self.inside.lasts ++ slice_range c.more.inside.lasts c.args.from c.args.to). rw more (memories_of-more c.self.inside.pages c.more.inside.pages c.take_range.new.self c.self.inside.lasts c.more.inside.lasts c.args.self.now c.args.more.now c.args.from c.args.to within c.self.view_is c.more.view_is taken))
    c.append_range.ensures.ok
