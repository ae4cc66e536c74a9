use Rattle.bsp_laws.proofs.Reaching.{sees_the_same}
use Rattle.bsp_laws.proofs.laws.out_of_reach_sees_the_same.Goals as goal

pub returns : goal.returns
returns c = sees_the_same
