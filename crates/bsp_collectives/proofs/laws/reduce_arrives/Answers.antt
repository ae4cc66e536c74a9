use Rattle.bsp_collectives.proofs.Arriving.{reduce-arrives}
use Rattle.bsp_collectives.proofs.laws.reduce_arrives.Goals as goal

pub returns : goal.returns
returns c = reduce-arrives
