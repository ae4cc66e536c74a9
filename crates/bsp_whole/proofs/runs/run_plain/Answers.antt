use Rattle.std.proofs.Common.{sym, subst}
use Rattle.bsp_model.specs.declared.input.Input.{Input}
use Rattle.bsp_step.specs.Turn.{turn_of}
use Rattle.bsp_run.specs.Law.{IsBspRun}
use Rattle.bsp_run.proofs.Laws.{IsBspRun-run}
use Rattle.bsp_whole.proofs.runs.run_plain.Goals as goal

pub returns-clause-law : goal.returns-clause-law
returns-clause-law g c =
    let turn = turn_of (g.P.Program.acts c.args.program.now) (g.P.Program.ending c.args.program.now) in
    let input : Input = c.args.input.now in
    subst (IsBspRun turn input) (sym c.in_ok-recorded_alone.ensures) (IsBspRun-run turn input c.in_ok-checked.ensures.ok)
