use Rattle.std.proofs.Common.{◌≡◌, ◌∙◌, ap, sym, subst}
use Rattle.bsp_model.specs.Input.{input_fault}
use Rattle.bsp_step.specs.Turn.{turn_of}
use Rattle.bsp_run.specs.RunErrors.{input_fault_of}
use Rattle.bsp_run.proofs.RunErrors.{lawful_input_refused}
use Rattle.bsp_incr.specs.Replies.{AreReplies}
use Rattle.bsp_incr.specs.Inside.Replies.{replies}
use Rattle.bsp_incr.proofs.Replying.{law_of_replies}
use Rattle.bsp_incr.proofs.session.whole.session_run.Goals as goal

pub returns-clause-law : goal.returns-clause-law
returns-clause-law g c =
    let turn = turn_of (g.P.Program.acts c.args.program) (g.P.Program.ending c.args.program) in
    let looks = g.P.Program.looks c.args.program in
    let program = c.in_ok-session.ensures.program in
    let input = c.in_ok-session.ensures.given in
    let all : c.in_ok-replies.field-0.items ≡ replies looks turn c.args.input c.args.batches.now =
    c.in_ok-replies.ensures ∙ (λ i. replies (g.P.Program.looks (program i)) (turn_of (g.P.Program.acts (program i)) (g.P.Program.ending (program i))) (input i) c.args.batches.now) in
    subst (AreReplies looks turn c.args.input c.args.batches.now) (sym all)
    (law_of_replies looks turn c.args.input c.args.batches.now c.in_ok-session.ensures.lawful)

pub returns-in_err-replies-clause-input : goal.returns-in_err-replies-clause-input
returns-in_err-replies-clause-input g c =
    lawful_input_refused _ c.from_residual-in_err-replies.result (input_fault c.args.input) c.in_ok-session.ensures.lawful (λ e out. ap input_fault_of out) c.from_residual-in_err-replies.ensures.1
