use Rattle.std.specs.Prelude.{Err}
use Rattle.bsp_engine.specs.Inside.DueAt.{due_at}
use Rattle.bsp_engine.proofs.Conversations.{stopped_before, stopped_on, stopped_part}
use Rattle.bsp_engine.proofs.conversation.answer.Goals as goal

pub returns-in_err-say_all-in-Ok-clause-err : goal.returns-in_err-say_all-in-Ok-clause-err
returns-in_err-say_all-in-Ok-clause-err g c =
    let error = c.in_err-say_all-in-Ok.field-0.0 in
    let due = due_at g.P.Program.acts g.P.Program.ending g.P.Program.looks c.args.attendant.now in
    let now = due_at g.P.Program.acts g.P.Program.ending g.P.Program.looks c.respond-answered.new.attendant in
    stopped_on c.from_residual.result error due c.args.line.now _ _ c.from_residual.ensures.1
    (stopped_part (Err error) due now c.args.line.now _ _ c.respond-answered.new.attendant.text.items c.in-Ok.ensures
    (rw (← c.as_slice-text.ensures.value) c.in_err-say_all-in-Ok.ensures.err) c.in_err-say_all-in-Ok.ensures.write)

pub returns-in-Err-clause-err : goal.returns-in-Err-clause-err
returns-in-Err-clause-err g c = stopped_before _ _ _
