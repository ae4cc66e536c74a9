use Rattle.bsp_laws.proofs.Reaching.{no_cause}
use Rattle.bsp_laws.proofs.laws.no_turn_without_a_cause.Goals as goal

pub returns : goal.returns
returns c = no_cause
