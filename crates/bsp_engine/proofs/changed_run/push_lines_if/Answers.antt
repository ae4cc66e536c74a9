use Rattle.bsp_run.specs.Result.{lines_of}
use Rattle.bsp_engine.specs.Changes.{other_lines, same_lines}
use Rattle.bsp_engine.proofs.WholeAgain.{Decides-lines}
use Rattle.bsp_engine.proofs.Changed.{untold}
use Rattle.bsp_engine.proofs.changed_run.push_lines_if.Goals as goal

pub returns-then-not-is_compared : goal.returns-then-not-is_compared
returns-then-not-is_compared c = untold other_lines same_lines Decides-lines c.args.text.now.items (lines_of c.args.old.now) (lines_of c.args.new.now) c.args.pid (c.requires c.if-not-is_compared.true)
