use Rattle.std.proofs.Common.{◌∙◌, List, ℕ, ap, sym, length}
use Rattle.std.proofs.lemmas.List.{length-map}
use Rattle.bsp_model.specs.declared.request.Message.{Message}
use Rattle.bsp_step.specs.ViewParts.{ViewParts}
use Rattle.bsp_run.specs.Inside.Views.{state_in}
use Rattle.bsp_run.proofs.Conditions.{length-views_of}
use Rattle.bsp_run.proofs.views.Views.len.Goals as goal

pub returns : goal.returns
returns c =
    let v = c.self.inside in
    c.len.ensures
    ∙ sym (length-map v.cells (λ (x : List ℕ × List Message). x.0))
    ∙ sym (length-views_of v.setting.args v.setting.step (state_in v))
    ∙ ap (λ (vs : List ViewParts). length vs) c.self.view_is
