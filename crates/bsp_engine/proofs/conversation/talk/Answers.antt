use Rattle.std.proofs.Common.{[], Ok, ap, refl, sym}
use Rattle.bsp_engine.specs.Inside.DueAt.{due_at, due_from}
use Rattle.bsp_engine.proofs.Beginning.{due_at-none}
use Rattle.bsp_engine.proofs.Conversations.{breaks_at_first, breaks_now, goes_as, goes_first, until_error}
use Rattle.bsp_engine.proofs.conversation.talk.Goals as goal

pub returns-in_err-say_all : goal.returns-in_err-say_all
returns-in_err-say_all g c =
    until_error c.from_residual.result c.in_err-say_all.field-0.0 (due_from g.P.Program.acts g.P.Program.ending g.P.Program.looks c.args.attendant.now) (g.T.Terminal.log c.args.terminal.now) (g.T.Terminal.log c.say_all.new.terminal) c.from_residual.ensures.1
    (breaks_at_first (due_at g.P.Program.acts g.P.Program.ending g.P.Program.looks c.args.attendant.now) _ _ c.args.attendant.now.text.items _ (rw (← c.as_slice.ensures.value) c.in_err-say_all.ensures.err) c.in_err-say_all.ensures.write)

pub loop-init : goal.loop-init
loop-init g c =
    goes_as _ _ _ _ [] [] _ [] (goes_first (due_at g.P.Program.acts g.P.Program.ending g.P.Program.looks c.args.attendant.now) _ _ c.args.attendant.now.text.items (rw (← c.as_slice.ensures.value) c.in_ok-say_all.ensures.ok)) (sym c.new-begun.ensures.items) refl

pub loop-preserved : goal.loop-preserved
loop-preserved g c =
    c.in_ok-more.ensures.more (ap Ok c.if-not-more.false) (due_from g.P.Program.acts g.P.Program.ending g.P.Program.looks c.args.attendant.now) (g.T.Terminal.log c.args.terminal.now) c.loop.invariant

pub returns-in_err-more : goal.returns-in_err-more
returns-in_err-more g c =
    let due = due_from g.P.Program.acts g.P.Program.ending g.P.Program.looks c.args.attendant.now in
    until_error c.from_residual-in_err-more.result c.in_err-more.field-0.0 due (g.T.Terminal.log c.args.terminal.now) (g.T.Terminal.log c.attend_more.new.terminal) c.from_residual-in_err-more.ensures.1
    (c.in_err-more.ensures.err due (g.T.Terminal.log c.args.terminal.now) c.loop.invariant)

pub returns-then-not-more : goal.returns-then-not-more
returns-then-not-more g c =
    c.in_ok-more.ensures.end (ap Ok c.if-not-more.true) (due_from g.P.Program.acts g.P.Program.ending g.P.Program.looks c.args.attendant.now) (g.T.Terminal.log c.args.terminal.now) c.loop.invariant

pub returns : goal.returns
returns g c =
    breaks_now (due_from g.P.Program.acts g.P.Program.ending g.P.Program.looks c.args.attendant.now) _ (g.T.Terminal.log c.args.terminal.now) _ _ _ c.loop.invariant
    (due_at-none g.P.Program.acts g.P.Program.ending g.P.Program.looks c.loop.attendant)
