use Rattle.std.proofs.Common.{◌≡◌, List, ℕ, length, take, drop, sym, ap, ◌∙◌}
use Rattle.std.proofs.lemmas.Bool.{false≢true}
use Rattle.bsp_model.specs.declared.range.Range.{Range}
use Rattle.bsp_model.specs.Stores.{words_stored}
use Rattle.bsp_model.specs.Inside.Ranges.{stores_of}
use Rattle.bsp_model.specs.Inside.Beside.{words_beside}
use Rattle.bsp_model.proofs.SameRanges.{same_stores}
use Rattle.bsp_model.proofs.StoredWords.{have_words}
use Rattle.bsp_model.proofs.stores_ref.StoresRefSame.same.Goals as goal

pub returns-then-len : goal.returns-then-len
returns-then-len c = (λ no. absurd (false≢true no), λ same. absurd (c.if-len.true (c.len.ensures ∙ ap length same ∙ sym c.len-2.ensures)))

pub returns-then-not-are_same : goal.returns-then-not-are_same
returns-then-not-are_same c =
    let mine = have_words c.args.self.now _ _ c.self.view_is c.self.invariant.1 in
    let others = have_words c.args.other.now _ _ c.other.view_is c.other.invariant.1 in (
      λ no. absurd (false≢true no),
      λ same. absurd (false≢true (sym c.if-not-are_same.true ∙ c.are_same.ensures.1 (same_stores _ _ _ _ mine.are others.are (mine.made ∙ same ∙ sym others.made)).0)),
    )

pub returns : goal.returns
returns c =
    let mine = have_words c.args.self.now _ _ c.self.view_is c.self.invariant.1 in
    let others = have_words c.args.other.now _ _ c.other.view_is c.other.invariant.1 in
    let words : words_stored c.args.self.now ≡ take c.len-3.result (drop c.source-mine.result.1 c.source-mine.result.0) =
    c.source-mine.ensures.there ∙ ap (λ (n : ℕ). take n (drop c.source-mine.result.1 c.source-mine.result.0)) (sym c.len-3.ensures) in
    let there : words_stored c.args.other.now ≡ take c.len-3.result (drop c.source-others.result.1 c.source-others.result.0) =
    c.source-others.ensures.there
    ∙ ap (λ (n : ℕ). take n (drop c.source-others.result.1 c.source-others.result.0)) (sym c.len-2.ensures ∙ sym c.if-len.false ∙ c.len.ensures ∙ sym c.len-3.ensures) in (
      λ yes.
          sym mine.made
          ∙ ap (λ (ws : List ℕ). stores_of c.self.inside.ranges.now ws) (sym mine.these ∙ words ∙ c.has_same_words.ensures.0 yes ∙ sym there ∙ others.these)
          ∙ ap (λ (rs : List Range). stores_of rs (words_beside c.other.inside.ranges.now c.other.inside.values.now c.other.inside.memory)) (c.are_same.ensures.0 c.if-not-are_same.false)
          ∙ others.made,
      λ same. c.has_same_words.ensures.1 (sym words ∙ ap words_stored same ∙ there),
    )
