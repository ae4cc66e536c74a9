use Rattle.std.proofs.Common.{◌∙◌, None, ap}
use Rattle.bsp_model.specs.declared.input.Input.{Input}
use Rattle.bsp_step.specs.Turn.{turn_of}
use Rattle.bsp_run.specs.Run.{Run}
use Rattle.bsp_run.proofs.OneRun.{one_run}
use Rattle.bsp_incr.specs.Inside.Changes.{update_of}
use Rattle.bsp_incr.proofs.Exactness.{update_of_exact}
use Rattle.bsp_engine.proofs.live.open.Goals as goal

pub returns-clause-update : goal.returns-clause-update
returns-clause-update g c =
    let turn = turn_of (g.P.Program.acts c.args.program) (g.P.Program.ending c.args.program) in
    let looks = g.P.Program.looks c.args.program in
    let input : Input = c.args.input in
    update_of_exact looks None c.in_ok-session.session.history c.in_ok-session.update c.in_ok-session.ensures.exact
    ∙ ap (λ (r : Run). update_of looks None r) ((one_run turn input c.in_ok-session.session.history c.requires.lawful).0 c.in_ok-session.ensures.law)
