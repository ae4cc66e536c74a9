use Rattle.bsp_model.proofs.PagedMemories.{no_memories}
use Rattle.bsp_model.proofs.memories.Memories.new.Goals as goal

pub returns : goal.returns
returns c = rw (c.new.ensures, c.new-2.ensures) no_memories
