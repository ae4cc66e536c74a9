use Rattle.std.proofs.Common.{List, Option, drop}
use Rattle.bsp_engine.specs.Inside.DueAt.{due_at}
use Rattle.bsp_engine.specs.Inside.Talk.{IsGoing}
use Rattle.bsp_engine.specs.Talk.{Due, Event}
use Rattle.bsp_engine.proofs.conversation.attend_all.Given as goal

abbrev pub invariant-loop-byte : goal.invariant-loop-byte
invariant-loop-byte g l =
    (due : Due) (start : Option (List Event)) → IsGoing due (due_at g.P.Program.acts g.P.Program.ending g.P.Program.looks l.fn.attendant) start (g.T.Terminal.log l.fn.terminal) l.fn.begun.items l.bytes
    → IsGoing due (due_at g.P.Program.acts g.P.Program.ending g.P.Program.looks l.attendant) start (g.T.Terminal.log l.terminal) l.begun.items (drop l.byte-index l.bytes)
