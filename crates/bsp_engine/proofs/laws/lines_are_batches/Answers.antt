use Rattle.bsp_engine.proofs.LiveLaws.{lines_are_batches}
use Rattle.bsp_engine.proofs.laws.lines_are_batches.Goals as goal

pub returns : goal.returns
returns g c = lines_are_batches g.P.Program.acts g.P.Program.ending g.P.Program.looks
