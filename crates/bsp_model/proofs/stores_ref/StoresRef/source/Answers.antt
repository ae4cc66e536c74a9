use Rattle.std.proofs.Common.{length, take, drop, sym, ap, ◌∙◌, arith}
use Rattle.std.proofs.lemmas.List.{take_all}
use Rattle.bsp_model.proofs.StoredWords.{beside, kept}
use Rattle.bsp_model.proofs.stores_ref.StoresRef.source.Goals as goal

pub returns-in-Some-clause-inside : goal.returns-in-Some-clause-inside
returns-in-Some-clause-inside c =
    let there = beside c.args.self.now c.in-Some.range _ _ _ c.in-Some.ensures c.self.view_is c.self.invariant.1 in
    omega (arith, there.inside, there.count, ap length c.reborrow.ensures.same)

pub returns-in-Some-clause-there : goal.returns-in-Some-clause-there
returns-in-Some-clause-there c =
    let there = beside c.args.self.now c.in-Some.range _ _ _ c.in-Some.ensures c.self.view_is c.self.invariant.1 in
    there.these ∙ (λ i. take (sym there.count i) (drop c.in-Some.range.start (sym c.reborrow.ensures.same i)))

pub returns-in-None-clause-inside : goal.returns-in-None-clause-inside
returns-in-None-clause-inside c =
    let have = kept c.args.self.now _ _ c.self.inside.memory (c.in-None.ensures c.self.inside.memory) c.self.view_is c.self.invariant.1 in
    omega (arith, have.count, ap length c.over_words.ensures.words)

pub returns-in-None-clause-there : goal.returns-in-None-clause-there
returns-in-None-clause-there c =
    let have = kept c.args.self.now _ _ c.self.inside.memory (c.in-None.ensures c.self.inside.memory) c.self.view_is c.self.invariant.1 in
    have.these ∙ sym c.over_words.ensures.words ∙ sym (take_all (length c.args.self.now) c.over_words.result (omega (arith, have.count, ap length c.over_words.ensures.words)))
