use Rattle.bsp_crew.proofs.PartLists.{left_of_left}
use Rattle.bsp_crew.proofs.crew.Crew.await_pieces.Goals as goal

pub loop-look-preserved : goal.loop-look-preserved
loop-look-preserved g c =
    let before = c.loop-look in
    left_of_left g.J.SharedRun.turn g.J.SharedRun.views c.args.rest.now before.left c.in_ok-left-2.left c.args.made.now before.made c.add_pieces.new.made before.invariant c.in_ok-left-2.ensures
