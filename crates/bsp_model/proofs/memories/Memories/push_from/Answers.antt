use Rattle.std.proofs.Common.{◌≤◌, ℕ, List, [], length, arith}
use Rattle.std.proofs.lemmas.Result.{MatchResult-from_err}
use Rattle.bsp_model.specs.Columns.{row_at, IsPut}
use Rattle.bsp_model.specs.Inside.Pages.{words_of}
use Rattle.bsp_model.proofs.Pages.{length-words_of, words_len}
use Rattle.bsp_model.proofs.PagedMemories.{ArePaged-same, memories_of-same, ArePaged-push, memories_of-push}
use Rattle.bsp_model.proofs.memories.Memories.push_from.Goals as goal

pub invariant_of-self : goal.invariant_of-self
invariant_of-self c = ArePaged-same c.self.inside.pages c.put.new.self c.self.inside.lasts c.self.invariant (λ k within. c.in_err-put.ensures.err.before k (omega (arith, within, c.len.ensures)))

pub returns-in_err-put-clause-err : goal.returns-in_err-put-clause-err
returns-in_err-put-clause-err c =
    MatchResult-from_err _ _ _ c.from_residual-in_err-put.ensures.0
    (λ _. memories_of-same c.self.inside.pages c.put.new.self c.self.inside.lasts c.args.self.now c.self.view_is (λ k within. c.in_err-put.ensures.err.before k (omega (arith, within, c.len.ensures))))

pub returns-in_err-push_from-clause-err : goal.returns-in_err-push_from-clause-err
returns-in_err-push_from-clause-err c =
    MatchResult-from_err _ _ _ c.from_residual-in_err-push_from.ensures.0
    (λ _. rw c.in_err-push_from.ensures.err
    (memories_of-same c.self.inside.pages c.put.new.self c.self.inside.lasts c.args.self.now c.self.view_is (λ k within. c.in_ok-put.ensures.ok.before k (omega (arith, within, c.len.ensures)))))

pub invariant_of-self-2 : goal.invariant_of-self-2
invariant_of-self-2 c =
    let put : IsPut [] (row_at c.self.inside.pages) (length c.self.inside.lasts) c.memory.inside.pages.items (row_at c.put.new.self) = rw (c.len.ensures, c.in_ok-full.ensures.full) at c.in_ok-put.ensures.ok in
    rw c.in_ok-push_from.ensures.ok
    (ArePaged-push c.self.inside.pages c.put.new.self c.self.inside.lasts c.memory.inside.pages.items c.memory.inside.last.items c.memory.inside.len c.self.invariant put c.memory.invariant)

pub returns-clause-ok : goal.returns-clause-ok
returns-clause-ok c =
    let put : IsPut [] (row_at c.self.inside.pages) (length c.self.inside.lasts) c.memory.inside.pages.items (row_at c.put.new.self) = rw (c.len.ensures, c.in_ok-full.ensures.full) at c.in_ok-put.ensures.ok in
    rw c.in_ok-push_from.ensures.ok
    (memories_of-push c.self.inside.pages c.put.new.self c.self.inside.lasts c.args.self.now c.memory.inside.pages.items c.memory.inside.last.items _ c.memory.inside.len c.self.view_is put c.memory.invariant c.memory.view_is)

-- as many words as the memory that is left says that it has
left : (full : List (List ℕ)) (last : List ℕ) (len count : ℕ) → len ≤ count → length (words_of full last len) ≤ count
left full last len count few = omega (arith, few, length-words_of full last len)

pub returns-in_err-full-clause-few : goal.returns-in_err-full-clause-few
returns-in_err-full-clause-few c = left c.take_full.new.pages.items _ _ _ (omega (arith, words_len _ _ _ _ c.memory.view_is, c.memory.invariant.count, c.len-memory-inside.ensures))

pub returns-in_err-put-clause-few : goal.returns-in_err-put-clause-few
returns-in_err-put-clause-few c = left c.take_full.new.pages.items _ _ _ (omega (arith, words_len _ _ _ _ c.memory.view_is, c.memory.invariant.count, c.len-memory-inside.ensures))

pub returns-in_err-push_from-clause-few : goal.returns-in_err-push_from-clause-few
returns-in_err-push_from-clause-few c = left c.take_full.new.pages.items _ _ _ (omega (arith, words_len _ _ _ _ c.memory.view_is, c.memory.invariant.count, c.len-memory-inside.ensures))

pub returns-clause-few : goal.returns-clause-few
returns-clause-few c = left c.take_full.new.pages.items c.push_from.new.words.items _ _ (omega (arith, c.in_ok-push_from.ensures.rest, words_len _ _ _ _ c.memory.view_is, c.memory.invariant.count, c.len-memory-inside.ensures))
