use Rattle.std.proofs.Common.{◌++◌, ◌∙◌, ap, append_assoc}
use Rattle.bsp_text.specs.DocumentText.{comma, entry}
use Rattle.bsp_text.proofs.Numbering.{numbered_grows}
use Rattle.bsp_text.proofs.session_document.push_array.Goals as goal

pub loop-number-preserved : goal.loop-number-preserved
loop-number-preserved g c =
    let item = g.T.Written.written c.index-items-number.result in
    numbered_grows (entry g.T.Written.written) _ _ _ c.args.items.now c.loop-number.number c.index-items-number.result c.loop-number-test.true c.index-items-number.is c.loop-number.invariant
    (c.in_ok-push_to.ensures ∙ ap (λ t. t ++ item) (c.in_ok-extend_from_slice-2.ensures.items ∙ ap (λ b. c.loop-number.text.items ++ b) c.comma.ensures) ∙ append_assoc c.loop-number.text.items (comma c.loop-number.number) item)
