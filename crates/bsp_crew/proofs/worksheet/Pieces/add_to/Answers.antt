use Rattle.std.proofs.Common.{◌≡◌, arith, length}
use Rattle.std.proofs.lemmas.Grind.{common_steps}
use Rattle.bsp_crew.proofs.PartLists.{left_of_left}
use Rattle.bsp_crew.proofs.worksheet.Pieces.add_to.Goals as goal

pub loop-place-preserved : goal.loop-place-preserved
loop-place-preserved g c =
    let before = c.loop-place.invariant in
    record {
      left = left_of_left g.J.SharedRun.turn g.J.SharedRun.views c.args.rest.now c.loop-place.left c.in_ok-left.left c.args.made.now c.loop-place.made c.add_to.new.made before.left c.in_ok-left.ensures;
      pieces = grind (arith, common_steps);
    }
