use Rattle.bsp_crew.proofs.PartLists.{left_of_left, part_within}
use Rattle.bsp_crew.proofs.crew.Crew.draw.Goals as goal

pub work_unit-requires-clause-part : goal.work_unit-requires-clause-part
work_unit-requires-clause-part g c κs within =
    c.loop-drawn.invariant.part c.args.task.now c.requires.part

pub work_unit-requires-clause-unit : goal.work_unit-requires-clause-unit
work_unit-requires-clause-unit g c κs within =
    part_within g.J.SharedRun.turn g.J.SharedRun.views c.unit.result c.args.whole.now c.args.task.now c.unit.ensures c.requires.part

pub loop-drawn-preserved : goal.loop-drawn-preserved
loop-drawn-preserved g c =
    let turn = g.J.SharedRun.turn in
    let views = g.J.SharedRun.views in
    let before = c.loop-drawn in
    let one = left_of_left turn views c.args.whole.now before.rest c.in_ok-rest.rest c.args.made.now before.made c.work_unit.new.made before.invariant c.in_ok-rest.ensures in
    left_of_left turn views c.args.whole.now c.in_ok-rest.rest c.in_ok-rest-2.rest c.args.made.now c.work_unit.new.made c.add_pieces.new.made one c.in_ok-rest-2.ensures
