use Rattle.bsp_laws.proofs.Apart.{told_apart}
use Rattle.bsp_laws.proofs.laws.no_turn_serves_more.Goals as goal

pub returns : goal.returns
returns c = told_apart
