use Rattle.bsp_laws.proofs.Undone.{goes_on_after}
use Rattle.bsp_laws.proofs.laws.limits_and_prices_go_on.Goals as goal

pub returns : goal.returns
returns c = goes_on_after
