use Rattle.std.proofs.Common.{◌≡◌, ◌∙◌, ◌<◌, ℕ, List, [], ◌∷◌, All, length, ap, refl, sym, subst, arith}
use Rattle.bsp_model.specs.Replaced.{replaced}
use Rattle.bsp_step.specs.OutcomeParts.{OutcomeParts}
use Rattle.bsp_step.specs.Inside.Rows.{rows_of}
use Rattle.bsp_step.proofs.outcomes.Outcomes.replaced.Goals as goal

-- where there is no process, none is replaced
replaced-none : (ps : List ℕ) (new : List OutcomeParts) → All (λ p. p < 0) ps → replaced [] ps new ≡ []
replaced-none [] new known = refl
replaced-none (p ∷ ps) new known = absurd (omega (arith, known 0 0 (omega arith)))

pub returns-in-None : goal.returns-in-None
returns-in-None c =
    let ps = c.args.processes.items in
    let none : [] ≡ c.args.self.now = sym (ap rows_of c.in-None.is) ∙ c.self.view_is in
    let known = subst (λ (os : List OutcomeParts). All (λ p. p < length os) ps) (sym none) c.requires.known in
    c.new.ensures ∙ sym (replaced-none ps c.args.new known) ∙ ap (λ (os : List OutcomeParts). replaced os ps c.args.new) none
