use Rattle.bsp_crew.proofs.PartLists.{left_of_left, less_left, parts_of}
use Rattle.bsp_crew.specs.Parts.{IsLeft}
use Rattle.bsp_crew.proofs.crew.Crew.gather.Goals as goal

pub work-requires-clause-part : goal.work-requires-clause-part
work-requires-clause-part g c κs within =
    let turn = g.J.SharedRun.turn in
    let views = g.J.SharedRun.views in
    let before = c.loop-rest in
    let left = left_of_left turn views c.args.rest.now before.rest c.in_ok-left.left c.args.made.now before.made c.await_pieces.new.made before.invariant c.in_ok-left.ensures in
    let given = left.part c.args.task.now c.requires.part in
    (parts_of turn views c.split.result.0 c.split.result.1 c.in_ok-left.left c.args.task.now c.split.ensures.cut given).0

pub loop-rest-preserved-then-left-rest : goal.loop-rest-preserved-then-left-rest
loop-rest-preserved-then-left-rest g c =
    let turn = g.J.SharedRun.turn in
    let views = g.J.SharedRun.views in
    let before = c.loop-rest in
    let left = left_of_left turn views c.args.rest.now before.rest c.in_ok-left.left c.args.made.now before.made c.await_pieces.new.made before.invariant c.in_ok-left.ensures in
    less_left turn views c.args.rest.now c.in_ok-left.left c.split.result.0 c.split.result.1 c.args.made.now c.await_pieces.new.made c.work.new.made left c.split.ensures.cut c.in_ok-work.ensures.alike c.in_ok-work.ensures.made
