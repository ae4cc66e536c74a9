use Rattle.bsp_collectives.proofs.Arriving.{spread-arrives, forward-arrives}
use Rattle.bsp_collectives.proofs.laws.spread_arrives.Goals as goal

pub returns-clause-first : goal.returns-clause-first
returns-clause-first c = spread-arrives

pub returns-clause-second : goal.returns-clause-second
returns-clause-second c = forward-arrives
