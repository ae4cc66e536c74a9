use Rattle.std.proofs.Common.{◌≡◌, ◌++◌, drop}
use Rattle.bsp_step.specs.Turn.{turn_of}
use Rattle.bsp_incr.specs.Inside.Replies.{replies_from}
use Rattle.bsp_incr.proofs.session.whole.add_replies.Given as goal

-- the replies so far, and those to the batches that are left
abbrev pub invariant-loop-batch : goal.invariant-loop-batch
invariant-loop-batch g l = record {
  program : l.session.program ≡ l.fn.session.program;
  rest : l.all.items ++ replies_from (g.P.Program.looks l.fn.session.program) (turn_of (g.P.Program.acts l.fn.session.program) (g.P.Program.ending l.fn.session.program)) l.session.input (drop l.batch-index l.batches)
      ≡ l.fn.all.items ++ replies_from (g.P.Program.looks l.fn.session.program) (turn_of (g.P.Program.acts l.fn.session.program) (g.P.Program.ending l.fn.session.program)) l.fn.session.input l.batches;
}
