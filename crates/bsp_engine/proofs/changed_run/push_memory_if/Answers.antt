use Rattle.bsp_run.specs.Result.{memories_of}
use Rattle.bsp_model.specs.Same.{same_words}
use Rattle.bsp_engine.specs.Text.{memory_line}
use Rattle.bsp_deliver.proofs.SameDelivery.{Decides-words}
use Rattle.bsp_engine.proofs.Changed.{untold}
use Rattle.bsp_engine.proofs.changed_run.push_memory_if.Goals as goal

pub returns-then-not-is_compared : goal.returns-then-not-is_compared
returns-then-not-is_compared c = untold memory_line same_words Decides-words c.args.text.now.items (memories_of c.args.old.now) (memories_of c.args.new.now) c.args.pid (c.requires c.if-not-is_compared.true)
