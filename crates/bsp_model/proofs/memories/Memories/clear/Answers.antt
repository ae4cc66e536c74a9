use Rattle.bsp_model.proofs.PagedMemories.{no_memories}
use Rattle.bsp_model.proofs.memories.Memories.clear.Goals as goal

pub returns : goal.returns
returns c = rw (c.clear.ensures, c.clear-2.ensures) no_memories
