use Rattle.bsp_collectives.proofs.Arriving.{scatter-arrives}
use Rattle.bsp_collectives.proofs.laws.scatter_arrives.Goals as goal

pub returns : goal.returns
returns c = scatter-arrives
