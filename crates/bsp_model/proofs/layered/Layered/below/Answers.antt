use Rattle.std.proofs.Common.{◌≡◌, ◌∙◌, ℕ, List, All, length, ap, sym, subst}
use Rattle.std.specs.List.{Contains}
use Rattle.std.proofs.lemmas.Result.{IfOk-weaker}
use Rattle.bsp_model.specs.Inside.Layers.{layered}
use Rattle.bsp_model.specs.Replaced.{replaced}
use Rattle.bsp_model.specs.declared.layered.Apart.{Apart}
use Rattle.bsp_model.proofs.Layers.{length-layered}
use Rattle.bsp_model.proofs.Replaced.{replaced-over}
use Rattle.bsp_model.proofs.layered.Layered.below.Goals as goal

pub returns-then-are_among-clause-count : goal.returns-then-are_among-clause-count
returns-then-are_among-clause-count g c =
    let by = g.T.ByProcess in
    let base = c.self.inside.base in
    IfOk-weaker c.copy-then-are_among.result (λ below. below ≡ base) _
    (λ below e. ap (λ all. length (by.items all)) e ∙ sym (length-layered by.items by.lay by.lays base c.self.inside.apart) ∙ ap (λ all. length (by.items all)) c.self.view_is)
    c.copy-then-are_among.ensures

pub returns-then-are_among-clause-below : goal.returns-then-are_among-clause-below
returns-then-are_among-clause-below g c =
    let by = g.T.ByProcess in
    let base = c.self.inside.base in
    let apart = c.in-Some.apart in
    let ps = c.args.processes.now in
    let others = c.as_slice-others.ensures.value ∙ ap (λ (a : Apart _). a.processes.items) c.deref.ensures in
    let seen = sym (by.lays base apart.processes.items apart.items) ∙ ap by.items (ap (layered by.lay base) (sym c.in-Some.is) ∙ c.self.view_is) in
    IfOk-weaker c.copy-then-are_among.result (λ below. below ≡ base) _
    (λ below e new count.
    ap (λ all. replaced (by.items all) ps new) e
    ∙ sym (replaced-over (by.items base) apart.processes.items (by.items apart.items) ps new
    (subst (λ (qs : List ℕ). All (Contains ps) qs) others (c.are_among.ensures.0 c.if-are_among.true)) count)
    ∙ ap (λ items. replaced items ps new) seen)
    c.copy-then-are_among.ensures
