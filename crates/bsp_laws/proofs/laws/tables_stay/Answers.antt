use Rattle.bsp_laws.proofs.Reaching.{tables_stay}
use Rattle.bsp_laws.proofs.laws.tables_stay.Goals as goal

pub returns : goal.returns
returns c = tables_stay
