use Rattle.bsp_engine.proofs.LiveLaws.{undo-batch}
use Rattle.bsp_engine.proofs.laws.undo_takes_back.Goals as goal

pub returns : goal.returns
returns g c = undo-batch
