use Rattle.bsp_crew.proofs.PartLists.{all_left, less_left}
use Rattle.bsp_crew.proofs.piece.Piece.add_to.Goals as goal

pub returns-in-Some-Ok : goal.returns-in-Some-Ok
returns-in-Some-Ok g c =
    let turn = g.J.SharedRun.turn in
    let views = g.J.SharedRun.views in
    let rest = c.args.rest.now in
    let made = c.args.made.now in
    less_left turn views rest rest c.split.result.0 c.split.result.1 made made c.add_part.new.made (all_left turn views rest made) c.split.ensures.cut c.in-Some-Ok.ensures.alike (rw c.in-Some-Ok.field-0-is at c.in-Some-Ok.ensures.added)
