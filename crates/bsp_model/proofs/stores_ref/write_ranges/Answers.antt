use Rattle.std.proofs.Common.{◌≡◌, ◌+◌, ◌∷◌, [], ℕ, List, get_or, take, drop, sym, ap, ◌∙◌, subst}
use Rattle.std.proofs.lemmas.List.{drop_more, drop_all}
use Rattle.bsp_model.specs.declared.range.Range.{Range}
use Rattle.bsp_model.specs.Stores.{records, made_again}
use Rattle.bsp_model.specs.Inside.Ranges.{stores_of, AreRanges}
use Rattle.bsp_model.proofs.MadeAgain.{made_again-first}
use Rattle.bsp_model.proofs.stores_ref.write_ranges.Goals as goal

abbrev no_range : Range
no_range = record { start = 0; len = 0 }

pub loop-range-preserved : goal.loop-range-preserved
loop-range-preserved c =
    let ranges = c.args.ranges.now in
    let i = c.loop-range.range-index in
    let values = c.loop-range.values.now in
    let memory = c.loop-range.memory in
    let first : Range = get_or ranges i no_range in
    let later = drop (i + 1) ranges in
    let both : drop i ranges ≡ first ∷ later = drop_more ranges i no_range c.loop-range-test.true in
    let left : AreRanges (first ∷ later) values = subst (λ (rs : List Range). AreRanges rs values) both c.loop-range.invariant.left in
    let front : c.split_at.result.0.now ≡ take first.len values = c.split_at.ensures.front in
    let back : c.split_at.result.1.now ≡ drop first.len values = c.split_at.ensures.back in
    record {
      left = subst (AreRanges later) (sym back) left.3;
      same =
          ap (λ (m : List ℕ). made_again m (stores_of later c.split_at.result.1.now)) c.in_ok-write_inside.ensures
          ∙ ap (λ (ws : List ℕ). made_again (made_again memory (records first.start ws)) (stores_of later c.split_at.result.1.now)) front
          ∙ ap (λ (ws : List ℕ). made_again (made_again memory (records first.start (take first.len values))) (stores_of later ws)) back
          ∙ sym (made_again-first memory first later values)
          ∙ ap (λ (rs : List Range). made_again memory (stores_of rs values)) (sym both)
          ∙ c.loop-range.invariant.same;
    }

pub returns : goal.returns
unfolding stores_of
returns c =
    let none : drop c.loop-range.range-index c.args.ranges.now ≡ [] = drop_all c.loop-range.range-index c.args.ranges.now c.loop-range-test.false in
    ap (λ (rs : List Range). made_again c.loop-range.memory (stores_of rs c.loop-range.values.now)) (sym none) ∙ c.loop-range.invariant.same
