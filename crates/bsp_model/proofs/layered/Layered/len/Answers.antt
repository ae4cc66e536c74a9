use Rattle.std.proofs.Common.{◌∙◌, length, ap, sym}
use Rattle.bsp_model.proofs.Layers.{length-layered}
use Rattle.bsp_model.proofs.layered.Layered.len.Goals as goal

pub returns : goal.returns
returns g c =
    let by = g.T.ByProcess in
    c.count.ensures ∙ ap (λ all. length (by.items all)) c.deref.ensures
    ∙ sym (length-layered by.items by.lay by.lays c.self.inside.base c.self.inside.apart) ∙ ap (λ all. length (by.items all)) c.self.view_is
