use Rattle.bsp_collectives.proofs.Arriving.{broadcast-arrives}
use Rattle.bsp_collectives.proofs.laws.broadcast_arrives.Goals as goal

pub returns : goal.returns
returns c = broadcast-arrives
