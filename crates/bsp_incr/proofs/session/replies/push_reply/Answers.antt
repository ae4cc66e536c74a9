use Rattle.std.proofs.Common.{◌≡◌, ◌∙◌, List, None, ap, sym}
use Rattle.bsp_model.specs.declared.input.Input.{Input}
use Rattle.bsp_model.specs.Input.{input_fault}
use Rattle.bsp_incr.specs.declared.edit.Edit.{Edit}
use Rattle.bsp_incr.specs.Edits.{refusal_of, edited}
use Rattle.bsp_incr.proofs.Facts.{on_ok}
use Rattle.bsp_incr.proofs.Lawful.{edited_lawful}
use Rattle.bsp_incr.proofs.session.replies.push_reply.Goals as goal

pub push_run-requires-clause-lawful : goal.push_run-requires-clause-lawful
push_run-requires-clause-lawful g c =
    let input : Input = c.args.input.now in
    let none : refusal_of input c.args.batch.now ≡ None = sym (ap (refusal_of input) c.as_slice.ensures) ∙ sym c.in_default.ensures in
    let made = c.in_ok-make_edits.ensures.made ∙ ap (λ (es : List Edit). edited input es) c.as_slice-2.ensures in
    ap input_fault made ∙ edited_lawful input c.args.batch.now none c.requires.lawful

pub returns-clause-lawful : goal.returns-clause-lawful
returns-clause-lawful g c =
    let input : Input = c.args.input.now in
    let none : refusal_of input c.args.batch.now ≡ None = sym (ap (refusal_of input) c.as_slice.ensures) ∙ sym c.in_default.ensures in
    let made = c.in_ok-make_edits.ensures.made ∙ ap (λ (es : List Edit). edited input es) c.as_slice-2.ensures in
    on_ok c.push_run.result (ap input_fault made ∙ edited_lawful input c.args.batch.now none c.requires.lawful)
