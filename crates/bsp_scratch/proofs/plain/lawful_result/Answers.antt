use Rattle.std.proofs.Common.{◌∙◌, List, sym, subst, arith}
use Rattle.bsp_model.proofs.Inputs.{lawful_input}
use Rattle.bsp_model.specs.declared.input.Input.{Input}
use Rattle.bsp_step.specs.Turn.{turn_of}
use Rattle.bsp_step.specs.ViewParts.{ViewParts}
use Rattle.bsp_run.specs.Run.{start}
use Rattle.bsp_scratch.specs.Inside.IsUnrecorded.{IsUnrecorded}
use Rattle.bsp_scratch.proofs.Underway.{underway_from_start}
use Rattle.bsp_scratch.proofs.plain.lawful_result.Goals as goal

pub numbers-processes-requires : goal.numbers-processes-requires
numbers-processes-requires g c =
    let few = (lawful_input c.args.input.now c.requires.lawful).few_processes in
    omega (arith, few, c.len.ensures)

pub finish-requires-clause-under_way : goal.finish-requires-clause-under_way
finish-requires-clause-under_way g c κs within =
    let input : Input = c.args.input.now in
    let turn = turn_of (g.P.Program.acts c.args.program.now) (g.P.Program.ending c.args.program.now) in
    underway_from_start turn input c.in_ok-views.views c.new-kept.result (lawful_input input c.requires.lawful).some_superstep c.new-kept.ensures.end c.new-kept.ensures.step
    (subst (λ (vs : List ViewParts). IsUnrecorded (start input) vs c.new-kept.result) (sym (c.in_ok-views.ensures ∙ c.in_ok-first.ensures)) c.new-kept.ensures.kept)
