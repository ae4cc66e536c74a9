use Rattle.std.proofs.Common.{◌∙◌, List, refl, sym, subst, arith}
use Rattle.bsp_model.specs.declared.input.Input.{Input}
use Rattle.bsp_model.proofs.Inputs.{lawful_input}
use Rattle.bsp_step.specs.ViewParts.{ViewParts}
use Rattle.bsp_run.specs.TurnBy.{turn_by}
use Rattle.bsp_run.specs.Run.{start, run}
use Rattle.bsp_scratch.specs.Inside.IsUnrecorded.{IsUnrecorded}
use Rattle.bsp_scratch.proofs.Underway.{underway_from_start, is_over}
use Rattle.bsp_scratch.proofs.by_workers.wide_result.Goals as goal

pub numbers-processes-requires : goal.numbers-processes-requires
numbers-processes-requires g c =
    let few = (lawful_input c.args.input.now c.requires.lawful).few_processes in
    omega (arith, few, c.len-2.ensures)

pub supersteps-alone-requires-clause-under_way : goal.supersteps-alone-requires-clause-under_way
supersteps-alone-requires-clause-under_way g c κs within =
    let input : Input = c.args.input.now in
    let turn = turn_by g.P.Program c.args.program.now in
    underway_from_start turn input c.in_ok-views.views c.new-kept.result (lawful_input input c.requires.lawful).some_superstep c.new-kept.ensures.end c.new-kept.ensures.step
    (subst (λ (vs : List ViewParts). IsUnrecorded (start input) vs c.new-kept.result) (sym (c.in_ok-views.ensures ∙ c.in_ok-first.ensures)) c.new-kept.ensures.kept)

pub result_at_end-requires : goal.result_at_end-requires
result_at_end-requires g c =
    let input : Input = c.args.input.now in
    let turn = turn_by g.P.Program c.args.program.now in
    record { ended = (run turn input, is_over turn input c.in-Ok.views c.supersteps-alone.new.kept c.in-Ok.ensures.stands c.if-is_over.ensures.over) }

pub by_crew-requires-clause-run : goal.by_crew-requires-clause-run
by_crew-requires-clause-run g c κs within = record { same_turn = refl; same_views = λ step. refl }
