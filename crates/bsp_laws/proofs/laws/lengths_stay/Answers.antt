use Rattle.bsp_laws.proofs.Sequences.{lengths_stay}
use Rattle.bsp_laws.proofs.laws.lengths_stay.Goals as goal

pub returns : goal.returns
returns c = lengths_stay
