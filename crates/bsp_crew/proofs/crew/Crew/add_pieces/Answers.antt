use Rattle.bsp_crew.proofs.PartLists.{left_of_left}
use Rattle.bsp_crew.proofs.crew.Crew.add_pieces.Goals as goal
use Rattle.bsp_crew.proofs.crew.Crew.add_pieces.Goals.{in-Some+in_ok-left, in_default}

pub loop-seat-preserved : goal.loop-seat-preserved
loop-seat-preserved g c =
    let before = c.loop-seat in
    elim c.match-desk.branch [
      | in-Some+in_ok-left w ↦
          rw (w.left-is, w.made-is) (left_of_left g.J.SharedRun.turn g.J.SharedRun.views c.args.rest.now before.left w.in_ok-left.left c.args.made.now before.made w.add_to.new.made before.invariant w.in_ok-left.ensures)
      | in_default w ↦ rw (w.left-is, w.made-is) before.invariant
    ]
