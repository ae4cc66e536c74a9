use Rattle.bsp_laws.proofs.Openings.{opening_costs}
use Rattle.bsp_laws.proofs.laws.openings_cost_the_run.Goals as goal

pub returns : goal.returns
returns c = opening_costs
