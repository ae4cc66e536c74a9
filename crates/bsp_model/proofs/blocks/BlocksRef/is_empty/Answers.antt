use Rattle.std.proofs.Common.{length, nat_eq, sym, ap, ◌∙◌}
use Rattle.bsp_model.proofs.BlocksOf.{length-blocks}
use Rattle.bsp_model.proofs.blocks.BlocksRef.is_empty.Goals as goal

pub returns : goal.returns
returns g c =
    c.is_empty.ensures ∙ ap (λ n. nat_eq n 0) (sym (length-blocks g.X.Block.of c.self.inside.heads.now c.self.inside.words.now) ∙ ap length c.self.view_is)
