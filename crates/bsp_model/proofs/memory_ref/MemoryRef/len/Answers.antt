use Rattle.bsp_model.proofs.Pages.{words_len}
use Rattle.bsp_model.proofs.memory_ref.MemoryRef.len.Goals as goal

pub returns : goal.returns
returns c = words_len _ _ _ _ c.self.view_is
