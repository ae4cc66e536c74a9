use Rattle.std.proofs.Common.{◌≡◌, ◌<◌, ◌+◌, ◌++◌, ◌∙◌, ℕ, List, ap, arith, get_or, length, refl}
use Rattle.std.specs.Prelude.{slice_range}
use Rattle.std.proofs.lemmas.List.{get_or_default}
use Rattle.bsp_model.specs.declared.range.Range.{Range}
use Rattle.bsp_model.specs.StoredRanges.{ranges_stored}
use Rattle.bsp_model.specs.Stores.{words_stored}
use Rattle.bsp_text.specs.Lines.{fields}
use Rattle.bsp_text.proofs.Showing.{stores_grow, words_in-stored, words_left}
use Rattle.bsp_text.proofs.turn_lines.push_stores.Goals as goal

pub loop-range-init : goal.loop-range-init
loop-range-init c = record { count = omega (arith, words_in-stored c.args.stores.now); text = refl }

pub loop-range-preserved : goal.loop-range-preserved
loop-range-preserved c =
    let stores = c.args.stores.now in
    let ranges = ranges_stored stores in
    let i = c.loop-range.range-index in
    let r : Range = get_or c.ranges-range-items.result.now i (record { start = 0; len = 0 }) in
    let within : i < length ranges = omega (arith, ap (λ (rs : List Range). length rs) c.ranges-range-items.ensures) in
    let is : r ≡ get_or ranges i r = ap (λ (rs : List Range). get_or rs i (record { start = 0; len = 0 })) c.ranges-range-items.ensures ∙ get_or_default ranges i (record { start = 0; len = 0 }) r within in
    let from = c.loop-range.from in
    let pushed = c.in_ok-push_fields.ensures ∙ ap (λ (ws : List ℕ). c.push_field.new.text.items ++ fields (slice_range ws from (from + r.len))) (c.deref.ensures.value ∙ c.in_ok-words.ensures) in
    record {
      count = words_left ranges i c.loop-range.from (length stores) r within is c.loop-range.invariant.count;
      text = stores_grow ranges (words_stored stores) _ _ _ _ _ _ i c.loop-range.from r within is c.loop-range.invariant.text
          c.in_ok-extend_from_slice.ensures.items c.in_ok-push_field.ensures pushed c.in_ok-extend_from_slice-2.ensures.items;
    }
