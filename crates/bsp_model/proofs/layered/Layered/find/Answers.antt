use Rattle.std.proofs.Common.{◌≡◌, ◌≢◌, ◌<◌, ◌∙◌, ℕ, List, length, get_or, ap, sym, subst, arith}
use Rattle.bsp_model.specs.Inside.Layers.{layered, AreApart, HasApart}
use Rattle.bsp_model.specs.declared.layered.Apart.{Apart}
use Rattle.bsp_model.proofs.Layers.{length-layered, item_apart, item_elsewhere}
use Rattle.bsp_model.proofs.layered.Layered.find.Goals as goal

pub returns-in-Some-place_among-clause-there : goal.returns-in-Some-place_among-clause-there
returns-in-Some-place_among-clause-there g c none =
    let by = g.T.ByProcess in
    let base = c.self.inside.base in
    let apart = c.in-Some.apart in
    let pid = c.args.pid in
    let place = c.in-Some-place_among.place in
    let are : AreApart (by.items base) apart.processes.items (by.items apart.items) = subst (HasApart by.items base) c.in-Some.is c.self.invariant in
    let some = subst (λ (ps : List ℕ). (place < length ps) × (get_or ps place 0 ≡ pid)) (c.as_slice.ensures.value ∙ ap (λ (a : Apart _). a.processes.items) c.deref-2.ensures) c.in-Some-place_among.ensures.some in
    ap (λ (a : Apart _). get_or (by.items a.items) place none) c.deref-in-Some-place_among.ensures
    ∙ item_apart (by.items base) (by.items apart.items) apart.processes.items place pid none are some.0 some.1
    ∙ ap (λ items. get_or items pid none) (sym (by.lays base apart.processes.items apart.items))
    ∙ ap (λ all. get_or (by.items all) pid none) (ap (layered by.lay base) (sym c.in-Some.is) ∙ c.self.view_is)

pub returns-in-None-clause-inside : goal.returns-in-None-clause-inside
returns-in-None-clause-inside g c =
    let by = g.T.ByProcess in
    omega (
      arith,
      c.requires,
      ap (λ all. length (by.items all)) c.deref-in-None.ensures,
      length-layered by.items by.lay by.lays c.self.inside.base c.self.inside.apart,
      ap (λ all. length (by.items all)) c.self.view_is,
    )

pub returns-in-None-clause-there : goal.returns-in-None-clause-there
returns-in-None-clause-there g c none =
    let by = g.T.ByProcess in
    let base = c.self.inside.base in
    let apart = c.in-Some.apart in
    let pid = c.args.pid in
    let other = subst (λ (ps : List ℕ). (k : ℕ) → k < length ps → pid ≢ get_or ps k 0) (c.as_slice.ensures.value ∙ ap (λ (a : Apart _). a.processes.items) c.deref-2.ensures) c.in-None.ensures.none in
    ap (λ all. get_or (by.items all) pid none) c.deref-in-None.ensures
    ∙ item_elsewhere (by.items base) (by.items apart.items) apart.processes.items pid none other
    ∙ ap (λ items. get_or items pid none) (sym (by.lays base apart.processes.items apart.items))
    ∙ ap (λ all. get_or (by.items all) pid none) (ap (layered by.lay base) (sym c.in-Some.is) ∙ c.self.view_is)
