use Rattle.bsp_engine.proofs.ResultsRead.{texts_tell_the_rest}
use Rattle.bsp_engine.proofs.WholeAgain.{changes_tell_the_rest}
use Rattle.bsp_engine.proofs.laws.changes_tell_the_rest.Goals as goal

pub returns-clause-items : goal.returns-clause-items
returns-clause-items c = changes_tell_the_rest

pub returns-clause-texts : goal.returns-clause-texts
returns-clause-texts c = texts_tell_the_rest
