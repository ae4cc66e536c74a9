use Rattle.std.proofs.Common.{◌≡◌, length}
use Rattle.bsp_crew.specs.Parts.{IsLeft}
use Rattle.bsp_crew.proofs.worksheet.Pieces.add_to.Given as goal

abbrev pub invariant-loop-place : goal.invariant-loop-place
invariant-loop-place g l = record {
  left : IsLeft g.J.SharedRun.turn g.J.SharedRun.views l.fn.rest l.fn.made l.left l.made;
  pieces : length l.self.pieces.items ≡ length l.fn.self.pieces.items;
}
