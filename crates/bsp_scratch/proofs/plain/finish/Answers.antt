use Rattle.bsp_model.specs.declared.input.Input.{Input}
use Rattle.bsp_run.specs.TurnBy.{turn_by}
use Rattle.bsp_run.specs.Run.{run}
use Rattle.bsp_scratch.proofs.Underway.{is_over}
use Rattle.bsp_scratch.proofs.plain.finish.Goals as goal

pub result_at_end-requires : goal.result_at_end-requires
result_at_end-requires g c =
    let input : Input = c.args.input.now in
    let turn = turn_by g.P.Program c.args.means.now.program.now in
    record { ended = (run turn input, is_over turn input c.in_ok-views.views c.supersteps.new.kept c.in_ok-views.ensures.stands c.in_ok-views.ensures.over) }

pub returns : goal.returns
returns g c =
    let input : Input = c.args.input.now in
    let turn = turn_by g.P.Program c.args.means.now.program.now in
    c.result_at_end.ensures (run turn input) (is_over turn input c.in_ok-views.views c.supersteps.new.kept c.in_ok-views.ensures.stands c.in_ok-views.ensures.over)
