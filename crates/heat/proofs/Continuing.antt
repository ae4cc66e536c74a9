-- A turn that goes on behind an act.
use Rattle.std.proofs.Common.{◌≡◌, ◌∷◌, List, ap, sym, ◌∙◌}
use Rattle.std.specs.Prelude.{Result, Ok, Err}
use Rattle.bsp_step.specs.declared.stop.Stop.{Stop}
use Rattle.bsp_step.specs.declared.stop.Stop.TheVariants.{Fault, OutOfMemory}
use Rattle.bsp_step.specs.Context.{Context}
use Rattle.bsp_step.specs.Act.{Act}
use Rattle.bsp_step.specs.Perform.{perform, perform_all}
use Rattle.bsp_step.specs.Calls.{Runs}

-- an act, and then the others
pub Runs-behind_act : {T : Type 0} (old now new : Context) (act : Act) (rest acts : List Act) (answer : T) (result : Result T Stop) → now ≡ perform old act → acts ≡ act ∷ rest → Runs now rest answer new result → Runs old acts answer new result
Runs-behind_act old now new act rest acts answer (Ok given) acted same ran = (ran.0 ∙ ap (λ (d : Context). perform_all d rest) acted ∙ ap (perform_all old) (sym same), ran.1)
Runs-behind_act old now new act rest acts answer (Err (Fault f)) acted same ran = (ran.0 ∙ ap (λ (d : Context). perform_all d rest) acted ∙ ap (perform_all old) (sym same), ran.1)
Runs-behind_act old now new act rest acts answer (Err OutOfMemory) acted same ran = tt
