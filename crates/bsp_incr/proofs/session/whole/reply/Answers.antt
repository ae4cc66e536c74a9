use Rattle.std.proofs.Common.{◌≡◌, ◌∙◌, List, Some, IfOk, ap, subst}
use Rattle.bsp_model.specs.declared.input.Input.{Input}
use Rattle.bsp_step.specs.Turn.{turn_of}
use Rattle.bsp_run.specs.Run.{Run}
use Rattle.bsp_run.specs.Law.{IsBspRun}
use Rattle.bsp_run.specs.Result.{result_of}
use Rattle.bsp_incr.specs.declared.edit.Edit.{Edit}
use Rattle.bsp_incr.specs.declared.reply.Reply.{Reply}
use Rattle.bsp_incr.specs.declared.reply.Reply.TheVariants.{Done}
use Rattle.bsp_incr.specs.Edits.{edited}
use Rattle.bsp_incr.specs.Inside.Replies.{reply_to}
use Rattle.bsp_incr.proofs.Replying.{replied_is}
use Rattle.bsp_incr.proofs.session.whole.reply.Goals as goal

pub returns-in-Ok-clause-reply : goal.returns-in-Ok-clause-reply
returns-in-Ok-clause-reply g c =
    let before = c.args.session.now in
    let after = c.apply.new.self in
    let turn = turn_of (g.P.Program.acts before.program) (g.P.Program.ending before.program) in
    let looks = g.P.Program.looks before.program in
    let input : Input = before.input in
    let batch : List Edit = c.as_slice.result.now in
    let old : Run = before.history in
    let new : Run = after.history in
    let was : IsBspRun turn input old = subst (IsBspRun turn input) c.history-history.ensures.history c.history-history.ensures.law in
    let is : IsBspRun turn (edited input batch) new = subst (λ (i : Input). IsBspRun turn i new) c.in-Ok.ensures.given c.in-Ok.ensures.law in
    let lawful = c.input-input.ensures.lawful in
    let reply : Done (result_of c.history.result.now) (Some c.in-Ok.update) ≡ reply_to looks turn input c.args.batch.now =
    ap (λ (h : Run). Done (result_of h) (Some c.in-Ok.update)) c.history.ensures.history
    ∙ replied_is looks turn input batch old new c.in-Ok.update lawful c.in-Ok.ensures.accepted was is c.in-Ok.ensures.exact
    ∙ ap (reply_to looks turn input) c.as_slice.ensures in
    subst (λ (y : Reply). IfOk c.done.result (λ r. r ≡ y)) reply c.done.ensures
