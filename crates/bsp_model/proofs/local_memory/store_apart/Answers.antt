use Rattle.std.proofs.Common.{◌≡◌, ◌≤◌, List, ℕ, length, sym, ap, subst, ◌∙◌, arith}
use Rattle.bsp_model.specs.declared.range.Range.{Range}
use Rattle.bsp_model.specs.Inside.Beside.{words_beside}
use Rattle.bsp_model.specs.Inside.Ranges.{last_len}
use Rattle.bsp_model.proofs.Ranges.{last_len-within}
use Rattle.bsp_model.proofs.local_memory.store_apart.Goals as goal

pub add_words-requires-clause-fits : goal.add_words-requires-clause-fits
add_words-requires-clause-fits c =
    let ranges = c.args.ranges.now.items in
    let kept : c.keep_words.new.values.items ≡ words_beside ranges c.args.values.now.items c.args.memory.now =
    c.in_ok-keep_words.ensures.kept ∙ ap (λ (rs : List Range). words_beside rs c.args.values.now.items c.args.memory.now) c.as_slice.ensures.value in
    let last : last_len ranges ≤ length c.keep_words.new.values.items =
    subst (λ (ws : List ℕ). last_len ranges ≤ length ws) (sym kept) (last_len-within ranges _ c.requires.ranges) in
    rw c.in_ok-reserve.ensures.items (omega (arith, last, c.keep_words.new.values.ok.0, c.extend_from_slice.new.self.small, c.extend_from_slice.new.self.ok))
