use Rattle.std.proofs.Common.{ap}
use Rattle.bsp_model.specs.Inside.Beside.{words_beside}
use Rattle.bsp_model.specs.Inside.Ranges.{stores_of}
use Rattle.bsp_model.proofs.local_memory.LocalMemory.move_to.Goals as goal

pub returns-clause-none : goal.returns-clause-none
unfolding stores_of
returns-clause-none c = ap (λ rs. stores_of rs (words_beside rs c.clear-2.new.self.items c.push_from.new.memory)) c.clear.ensures.items
