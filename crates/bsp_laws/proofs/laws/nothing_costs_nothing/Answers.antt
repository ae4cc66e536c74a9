use Rattle.bsp_laws.proofs.AtMost.{nothing_costs}
use Rattle.bsp_laws.proofs.laws.nothing_costs_nothing.Goals as goal

pub returns : goal.returns
returns c = nothing_costs
