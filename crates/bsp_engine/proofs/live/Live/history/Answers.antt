use Rattle.std.proofs.Common.{ap, ◌∙◌}
use Rattle.bsp_step.specs.Turn.{turn_of}
use Rattle.bsp_run.proofs.OneRun.{one_run}
use Rattle.bsp_engine.specs.Live.{LiveParts, run_of}
use Rattle.bsp_engine.proofs.live.Live.history.Goals as goal

pub returns : goal.returns
returns g c =
    let session = c.self.inside.session in
    let turn = turn_of (g.P.Program.acts session.program) (g.P.Program.ending session.program) in
    (one_run turn session.input c.history.result.now c.input-input.ensures.lawful).0 c.history.ensures.law ∙ ap (λ (v : LiveParts _). run_of g.P.Program.acts g.P.Program.ending v) c.self.view_is
