use Rattle.bsp_laws.proofs.Reaching.{within_reach}
use Rattle.bsp_laws.proofs.laws.updates_are_within_reach.Goals as goal

pub returns : goal.returns
returns c = within_reach
