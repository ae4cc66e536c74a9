use Rattle.bsp_laws.proofs.Paid.{travels_paid}
use Rattle.bsp_laws.proofs.laws.travels_are_paid.Goals as goal

pub returns : goal.returns
returns c = travels_paid
