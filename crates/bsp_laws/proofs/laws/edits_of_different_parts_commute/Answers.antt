use Rattle.bsp_incr.proofs.EditParts.{commute}
use Rattle.bsp_laws.proofs.laws.edits_of_different_parts_commute.Goals as goal

pub returns : goal.returns
returns c = commute
