use Rattle.std.proofs.Common.{◌≡◌, ◌∙◌, IfOk, ap, refl, subst}
use Rattle.bsp_run.specs.declared.setting.Setting.{Setting}
use Rattle.bsp_run.specs.Setting.{next_setting}
use Rattle.bsp_run.specs.Run.{Run}
use Rattle.bsp_run.specs.Inside.Settings.{AreTurned}
use Rattle.bsp_run.specs.Inside.Tape.{run_of}
use Rattle.bsp_run.proofs.tape.Tape.next_setting.Goals as goal

pub next_setting-requires : goal.next_setting-requires
next_setting-requires c =
    let r : Run = run_of c.self.inside in
    record { turned = (r, record { run = c.self.invariant.run; phase = ap (λ (x : Run). x.phase) c.self.view_is ∙ c.requires; views = c.deref.ensures ∙ c.self.invariant.views; outcomes = refl }) }

pub returns : goal.returns
returns c =
    let r : Run = run_of c.self.inside in
    let turned : AreTurned r c.deref.result.now c.self.inside.outcomes =
    record { run = c.self.invariant.run; phase = ap (λ (x : Run). x.phase) c.self.view_is ∙ c.requires; views = c.deref.ensures ∙ c.self.invariant.views; outcomes = refl } in
    subst (λ (x : Run). IfOk c.next_setting.result (λ (setting : Setting). setting ≡ next_setting x)) c.self.view_is (c.next_setting.ensures r turned)
