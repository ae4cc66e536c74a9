use Rattle.std.proofs.Common.{List, subst, refl}
use Rattle.bsp_step.specs.ViewParts.{ViewParts}
use Rattle.bsp_run.specs.Inside.Settings.{IsSettingOf}
use Rattle.bsp_run.specs.Inside.Views.{state_in}
use Rattle.bsp_run.proofs.Settings.{IsSettingOf-views_of}
use Rattle.bsp_run.proofs.views.Views.setting.Goals as goal

pub returns : goal.returns
returns c =
    let v = c.self.inside in
    subst (λ (vs : List ViewParts). IsSettingOf vs v.setting) c.self.view_is (IsSettingOf-views_of v.setting (state_in v) c.self.invariant.same_args refl refl)
