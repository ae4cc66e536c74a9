use Rattle.bsp_incr.proofs.EditParts.{last_wins}
use Rattle.bsp_laws.proofs.Sequences.{overwritten_in_batch}
use Rattle.bsp_laws.proofs.laws.last_edit_wins.Goals as goal

pub returns-clause-two : goal.returns-clause-two
returns-clause-two c = last_wins

pub returns-clause-batch : goal.returns-clause-batch
returns-clause-batch c = overwritten_in_batch
