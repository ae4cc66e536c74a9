use Rattle.bsp_collectives.proofs.Arriving.{all_reduce-arrives}
use Rattle.bsp_collectives.proofs.laws.all_reduce_arrives.Goals as goal

pub returns : goal.returns
returns c = all_reduce-arrives
