use Rattle.bsp_model.proofs.StoredWords.{no_stores}
use Rattle.bsp_model.proofs.local_memory.LocalMemory.new.Goals as goal

pub returns : goal.returns
returns c = λ i. record { memory = c.new.ensures i; stores = no_stores c.new-2.result.items c.new-3.result.items c.new.result c.new-2.ensures.items i }
