use Rattle.bsp_step.specs.Turn.{turn_of}
use Rattle.bsp_run.specs.Run.{run}
use Rattle.bsp_run.proofs.Laws.{IsBspRun-run}
use Rattle.bsp_whole.proofs.runs.run_result_wide.Goals as goal

pub returns-clause-law : goal.returns-clause-law
returns-clause-law g c =
    let turn = turn_of (g.P.Program.acts c.args.program.now) (g.P.Program.ending c.args.program.now) in
    record {
      run = run turn c.args.input.now;
      law = IsBspRun-run turn c.args.input.now c.in_ok-checked.ensures.ok;
      gives = c.in_ok-wide_result.ensures;
    }
