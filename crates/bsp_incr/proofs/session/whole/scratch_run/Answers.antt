use Rattle.std.proofs.Common.{rules}
use Rattle.bsp_step.specs.Turn.{turn_of}
use Rattle.bsp_incr.specs.Replies.{MakesRuns}
use Rattle.bsp_incr.proofs.session.whole.scratch_run.Goals as goal

pub scratch_run_behind-requires-clause-makes : goal.scratch_run_behind-requires-clause-makes
scratch_run_behind-requires-clause-makes g c κs within = (
  turn_of (g.P.Program.acts c.args.program.now) (g.P.Program.ending c.args.program.now),
  record {
    takes = λ input lawful. (lawful, search rules);
    gives = λ input r lawful made. made;
  },
)

pub returns-clause-law : goal.returns-clause-law
returns-clause-law g c =
    c.scratch_run_behind.ensures.law (g.P.Program.looks c.args.program.now) (turn_of (g.P.Program.acts c.args.program.now) (g.P.Program.ending c.args.program.now)) (record {
      takes = λ input lawful. (lawful, search rules);
      gives = λ input r lawful made. made;
    })
