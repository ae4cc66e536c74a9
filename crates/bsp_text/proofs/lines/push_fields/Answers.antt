use Rattle.std.proofs.Common.{◌∙◌, ◌++◌, ◌+◌, ◌-◌, ap, arith, drop, take}
use Rattle.std.specs.List.{slice_range}
use Rattle.std.proofs.lemmas.List.{append-nil, drop_all, length-drop, take_all}
use Rattle.bsp_text.specs.Lines.{fields}
use Rattle.bsp_text.proofs.Numbering.{fields_grow}
use Rattle.bsp_text.proofs.lines.push_fields.Goals as goal

pub loop-at-preserved : goal.loop-at-preserved
loop-at-preserved c =
    let numbers = c.args.numbers.now in
    let at = c.loop-at.at in
    let count = c.min-count.result in
    let part = slice_range numbers at (at + count) in
    let start = c.write_fields-start.result in
    let written = drop start c.write_fields-start.new.room in
    let whole = take_all (336 - start) written (omega (arith, length-drop start c.write_fields-start.new.room)) in
    let rest = drop_all 336 c.loop-at.room (omega arith) in
    let pushed = c.in_ok-extend_from_slice.ensures.items ∙ ap (λ l. c.loop-at.text.items ++ l) (whole ∙ c.write_fields-start.ensures.written ∙ ap (λ l. fields part ++ l) rest ∙ append-nil (fields part)) in
    record {
      within = omega (arith, c.loop-at.invariant.within, c.min-count.ensures);
      text = fields_grow numbers part at count c.args.text.now.items _ _ (ap (λ k. take k (drop at numbers)) (omega arith)) c.loop-at.invariant.text pushed;
    }
