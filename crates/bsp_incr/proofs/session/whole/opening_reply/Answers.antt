use Rattle.std.proofs.Common.{◌≡◌, ◌∙◌, IfOk, None, Some, ap, subst}
use Rattle.bsp_model.specs.declared.input.Input.{Input}
use Rattle.bsp_step.specs.Turn.{turn_of}
use Rattle.bsp_run.specs.Run.{Run, run}
use Rattle.bsp_run.specs.Law.{IsBspRun}
use Rattle.bsp_run.specs.Result.{result_of}
use Rattle.bsp_run.proofs.OneRun.{one_run}
use Rattle.bsp_incr.specs.declared.reply.Reply.{Reply}
use Rattle.bsp_incr.specs.declared.reply.Reply.TheVariants.{Done}
use Rattle.bsp_incr.specs.declared.reply.Update.{Update}
use Rattle.bsp_incr.specs.Inside.Replies.{done}
use Rattle.bsp_incr.proofs.Exactness.{update_of_exact}
use Rattle.bsp_incr.proofs.session.whole.opening_reply.Goals as goal

pub returns : goal.returns
returns g c =
    let session = c.args.session.now in
    let turn = turn_of (g.P.Program.acts session.program) (g.P.Program.ending session.program) in
    let looks = g.P.Program.looks session.program in
    let input : Input = session.input in
    let history : Run = session.history in
    let law : IsBspRun turn input history = subst (IsBspRun turn input) c.history.ensures.history c.history.ensures.law in
    let reply : Done (result_of c.history.result.now) (Some c.args.update) ≡ done looks None (run turn input) =
    ap (λ (h : Run). Done (result_of h) (Some c.args.update)) c.history.ensures.history
    ∙ ap (λ (u : Update). Done (result_of history) (Some u)) (update_of_exact looks None history c.args.update c.requires.exact)
    ∙ ap (done looks None) ((one_run turn input history c.input-input.ensures.lawful).0 law) in
    subst (λ (y : Reply). IfOk c.done.result (λ r. r ≡ y)) reply c.done.ensures
