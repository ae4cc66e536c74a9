use Rattle.bsp_crew.proofs.PartLists.{all_left, less_left, parts_of}
use Rattle.bsp_crew.proofs.crew.Crew.work_unit.Goals as goal

pub work-requires-clause-part : goal.work-requires-clause-part
work-requires-clause-part g c κs within =
    (parts_of g.J.SharedRun.turn g.J.SharedRun.views c.split.result.0 c.split.result.1 c.args.rest.now c.args.task.now c.split.ensures.cut c.requires.part).0

pub returns-then-unit-rest : goal.returns-then-unit-rest
returns-then-unit-rest g c =
    let turn = g.J.SharedRun.turn in
    let views = g.J.SharedRun.views in
    let rest = c.args.rest.now in
    let made = c.args.made.now in
    less_left turn views rest rest c.split.result.0 c.split.result.1 made made c.work.new.made (all_left turn views rest made) c.split.ensures.cut c.in_ok-work.ensures.alike c.in_ok-work.ensures.made
