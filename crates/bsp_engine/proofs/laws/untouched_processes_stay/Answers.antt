use Rattle.bsp_engine.proofs.Untouched.{untouched_stay}
use Rattle.bsp_engine.proofs.laws.untouched_processes_stay.Goals as goal

pub returns : goal.returns
returns c = untouched_stay
