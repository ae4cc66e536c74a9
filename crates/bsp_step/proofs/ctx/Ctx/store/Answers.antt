use Rattle.std.proofs.Common.{◌≡◌, ◌≤◌, ◌-◌, ◌∷◌, ◌++◌, [], None, List, ℕ, length, sym, ap, ◌∙◌, arith}
use Rattle.std.proofs.lemmas.Bool.Decides.{nat_tests}
use Rattle.bsp_model.specs.Memory.{memory_written}
use Rattle.bsp_model.specs.Stores.{records}
use Rattle.bsp_model.specs.Workspace.{own_memory}
use Rattle.bsp_step.specs.Context.{Context}
use Rattle.bsp_step.specs.ViewParts.{ViewParts}
use Rattle.bsp_step.specs.CtxInside.{context_of}
use Rattle.bsp_step.proofs.StoredLists.{kept}
use Rattle.bsp_step.proofs.Storing.{perform-store}
use Rattle.bsp_step.proofs.ctx.Ctx.store.Goals as goal

pub returns : goal.returns
returns c =
    let now = c.args.self.now in
    let address = c.args.address in
    let words : List ℕ = c.args.value ∷ [] in
    let none : now.fault ≡ None = grind arith in
    let within : length words ≤ length now.memory - address = grind (arith, nat_tests, c.memory_len.ensures.len) in
    let before : c.view.inside.memory ≡ c.self.inside.view.now.memory = ap (λ (v : ViewParts). v.memory) c.view.view_is in
    let own = own_memory c.deref_mut-workspace.result.now c.view.inside.memory in
    let made = ap (own_memory c.store.new.self) (sym before) ∙ c.in_ok-store.ensures.ok ∙ ap (λ (ws : List ℕ). record { memory = memory_written own.memory address ws; stores = own.stores ++ records address ws }) c.from_ref.ensures.value in
    let all = kept (context_of c.self.inside) now own _ address words c.self.view_is within (λ i. own_memory (c.deref_mut-workspace.ensures.value i) (before i)) made in
    (all ∙ sym (perform-store now address c.args.value none (omega (arith, within))), ap (λ (d : Context). d.fault) c.self.view_is ∙ none, all)
