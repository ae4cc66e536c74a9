use Rattle.std.proofs.Common.{◌∙◌}
use Rattle.bsp_run.specs.Run.{run}
use Rattle.bsp_run.specs.TurnBy.{turn_by}
use Rattle.bsp_run.proofs.Runs.{closed-leads}
use Rattle.bsp_incr.proofs.rerun.remaking.finish.Goals as goal

pub returns-in-Ok : goal.returns-in-Ok
returns-in-Ok g c =
    let turn = turn_by g.P.Program c.args.given.now.program in
    let done = c.in-Ok.ensures in
    let ended = closed-leads turn c.supersteps.new.tape (run turn c.args.given.now.input) done.going_on.leads done.over in
    record { ended = ended.0; run = ended.1; updated = c.into_update-update.ensures ∙ done.going_on.midway.updated }
