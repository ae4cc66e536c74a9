use Rattle.std.proofs.Common.{◌≡◌, Some}
use Rattle.bsp_crew.proofs.PartLists.{piece_more}
use Rattle.bsp_crew.proofs.piece.Piece.work.Goals as goal

pub keep-requires : goal.keep-requires
keep-requires g c =
    let own = c.args.self.now in
    let had : own.made ≡ Some c.in-Some.made = cc in
    piece_more g.J.SharedRun.turn g.J.SharedRun.views own.step c.args.part.now.step own.processes.items c.args.part.now.processes.now c.extend_from_slice.new.self.items c.in-Some.made c.work.new.made (own.is_made c.in-Some.made had) (cc) c.in-Ok.ensures.items c.in-Ok-work.ensures.made
