use Rattle.bsp_incr.proofs.LawOfReuse.{law_reused}
use Rattle.bsp_laws.proofs.laws.turns_are_reused.Goals as goal

pub returns : goal.returns
returns c = law_reused
