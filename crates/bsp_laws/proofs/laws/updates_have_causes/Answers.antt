use Rattle.bsp_laws.proofs.Caused.{causes_of_updates}
use Rattle.bsp_laws.proofs.laws.updates_have_causes.Goals as goal

pub returns : goal.returns
returns c = causes_of_updates
