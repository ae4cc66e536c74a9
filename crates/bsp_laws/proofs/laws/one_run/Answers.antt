use Rattle.bsp_run.proofs.OneRun.{one_run}
use Rattle.bsp_laws.proofs.laws.one_run.Goals as goal

pub returns : goal.returns
returns c = one_run
