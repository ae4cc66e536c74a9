use Rattle.bsp_laws.proofs.Undone.{lower_limits}
use Rattle.bsp_laws.proofs.laws.lower_limits_do_nothing.Goals as goal

pub returns : goal.returns
returns c = lower_limits
