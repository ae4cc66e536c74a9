use Rattle.bsp_incr.proofs.EditSequences.{stays}
use Rattle.bsp_laws.proofs.laws.acceptance_stays.Goals as goal

pub returns : goal.returns
returns c = stays
