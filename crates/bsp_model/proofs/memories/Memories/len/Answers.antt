use Rattle.std.proofs.Common.{length, ap, sym, ◌∙◌}
use Rattle.bsp_model.proofs.PagedMemories.{length-memories_of}
use Rattle.bsp_model.proofs.memories.Memories.len.Goals as goal

pub returns : goal.returns
returns c = c.len.ensures ∙ sym (length-memories_of c.self.inside.pages c.self.inside.lasts) ∙ ap length c.self.view_is
