use Rattle.std.proofs.Common.{◌≡◌, [], ℕ, List, length, refl, ap, ◌∙◌, arith}
use Rattle.std.specs.Prelude.{OnOk}
use Rattle.std.proofs.lemmas.Result.{on_ok_weaker}
use Rattle.bsp_model.specs.declared.range.Range.{Range}
use Rattle.bsp_model.specs.declared.request.Store.{Store}
use Rattle.bsp_model.specs.Stores.{words_stored}
use Rattle.bsp_model.specs.Inside.Beside.{stores_beside, AreBeside}
use Rattle.bsp_model.proofs.StoredWords.{have_words, beside, kept_some, stand_beside, put_beside}
use Rattle.bsp_model.proofs.columns.pairs.Pairs+Range+u64.put.Goals as goal
use Rattle.bsp_model.proofs.columns.pairs.Pairs+Range+u64.put.Goals.{After-put_pair, After-drop-words}

-- the stores are kept beside the memory as the rows of a process
abbrev AreKept : (List (List Range)) × (List (List ℕ)) → ℕ → List ℕ → List Store → Type 0
AreKept rows place memory stores = AreBeside rows place memory × (stores_beside rows place memory ≡ stores)

-- no words, where they stand in the memory
none : (c : After-put_pair) → OnOk c.put_pair.result (AreKept c.put_pair.new.self c.args.place c.args.memory.now c.args.stores.now)
none c =
    let have = have_words c.args.stores.now _ _ c.stores.view_is c.stores.invariant.1 in
    let ranges : List Range = c.stores.inside.ranges.now in
    on_ok_weaker _
    (λ put. put_beside c.put_pair.new.self c.args.place ranges [] c.args.memory.now _ c.args.stores.now put.there
    (stand_beside ranges c.args.memory.now (words_stored c.args.stores.now) c.if-stores-eq1.true (c.if-stand_in.ensures refl) ∙ have.these) have)
    c.put_pair.ensures.ok

pub returns-then-stand_in-clause-beside : goal.returns-then-stand_in-clause-beside
returns-then-stand_in-clause-beside c = on_ok_weaker _ (λ (both : AreKept c.put_pair.new.self c.args.place c.args.memory.now c.args.stores.now). both.0) (none c)

pub returns-then-stand_in-clause-there : goal.returns-then-stand_in-clause-there
returns-then-stand_in-clause-there c = on_ok_weaker _ (λ (both : AreKept c.put_pair.new.self c.args.place c.args.memory.now c.args.stores.now). both.1) (none c)

-- copies of the words
copied : (c : After-drop-words) → OnOk c.put_pair-2.result (AreKept c.put_pair-2.new.self c.args.place c.args.memory.now c.args.stores.now)
copied c =
    let have = have_words c.args.stores.now _ _ c.stores.view_is c.stores.invariant.1 in
    let there = beside c.args.stores.now c.in-Some.field-0 _ _ _ c.in-Some.ensures c.stores.view_is c.stores.invariant.1 in
    let words : List ℕ = c.as_slice.result.now in
    let same : words ≡ words_stored c.args.stores.now = c.as_slice.ensures.value ∙ c.in_ok-words.ensures in
    on_ok_weaker _
    (λ put. put_beside c.put_pair-2.new.self c.args.place c.stores.inside.ranges.now words c.args.memory.now _ c.args.stores.now put.there
    (kept_some c.stores.inside.ranges.now words c.args.memory.now (omega (arith, there.some, there.count, have.count, ap length have.these, ap length same)) ∙ same ∙ have.these) have)
    c.put_pair-2.ensures.ok

pub returns-clause-beside : goal.returns-clause-beside
returns-clause-beside c = on_ok_weaker _ (λ (both : AreKept c.put_pair-2.new.self c.args.place c.args.memory.now c.args.stores.now). both.0) (copied c)

pub returns-clause-there : goal.returns-clause-there
returns-clause-there c = on_ok_weaker _ (λ (both : AreKept c.put_pair-2.new.self c.args.place c.args.memory.now c.args.stores.now). both.1) (copied c)
