use Rattle.std.proofs.Common.{[]}
use Rattle.bsp_engine.specs.Inside.DueAt.{due_at, due_from}
use Rattle.bsp_engine.specs.Inside.Talk.{IsGoing}
use Rattle.bsp_engine.proofs.conversation.talk.Given as goal

abbrev pub invariant-loop : goal.invariant-loop
invariant-loop g l =
    IsGoing (due_from g.P.Program.acts g.P.Program.ending g.P.Program.looks l.fn.attendant) (due_at g.P.Program.acts g.P.Program.ending g.P.Program.looks l.attendant)
    (g.T.Terminal.log l.fn.terminal) (g.T.Terminal.log l.terminal) l.begun.items []
