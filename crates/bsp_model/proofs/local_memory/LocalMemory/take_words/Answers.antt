use Rattle.bsp_model.proofs.StoredWords.{no_stores}
use Rattle.bsp_model.proofs.local_memory.LocalMemory.take_words.Goals as goal

pub returns : goal.returns
returns c = λ i. record { memory = c.take_words.ensures i; stores = no_stores c.clear.new.self.items c.clear-2.new.self.items c.take_words.new.self c.clear.ensures.items i }
