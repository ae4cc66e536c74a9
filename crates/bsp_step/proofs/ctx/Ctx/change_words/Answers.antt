use Rattle.std.proofs.Common.{◌≡◌, ◌≤◌, ◌-◌, None, Some, List, ℕ, length, take, drop, sym, ap, ◌∙◌, arith}
use Rattle.bsp_model.specs.LocalParts.{LocalParts}
use Rattle.bsp_model.specs.Workspace.{own_memory}
use Rattle.bsp_step.specs.Blocks.{stores, with_stored}
use Rattle.bsp_step.specs.Context.{Context}
use Rattle.bsp_step.specs.CtxInside.{context_of}
use Rattle.bsp_step.specs.ViewParts.{ViewParts}
use Rattle.bsp_step.proofs.Performing.{perform_all-kept}
use Rattle.bsp_step.proofs.StoredLists.{kept}
use Rattle.bsp_step.proofs.Storing.{perform_all-stores}
use Rattle.bsp_step.proofs.ctx.Ctx.change_words.Goals as goal

pub returns-in-Some-clause-acted : goal.returns-in-Some-clause-acted
returns-in-Some-clause-acted g c within =
    let now = c.args.self.now in
    let fault : now.fault ≡ Some c.in-Some.fault = ap (λ (d : Context). d.fault) (sym c.self.view_is) ∙ c.in-Some.is in
    let words = g.C.Change.makes c.args.change.now (take c.args.len (drop c.args.address now.memory)) in
    (sym (perform_all-kept now (stores c.args.address words) c.in-Some.fault fault), fault)

before : (g : _) (c : goal.In_ok-change g) → c.view.inside.memory ≡ c.self.inside.view.now.memory
before g c = ap (λ (v : ViewParts). v.memory) c.view.view_is

-- the memory that the change sees
abbrev own : (g : _) (c : goal.In_ok-change g) → LocalParts
own g c = own_memory c.deref_mut-workspace.result.now c.view.inside.memory

same : (g : _) (c : goal.In_ok-change g) → own g c ≡ own_memory c.self.inside.workspace.value c.self.inside.view.now.memory
same g c = λ i. own_memory (c.deref_mut-workspace.ensures.value i) (before g c i)

seen : (g : _) (c : goal.In_ok-change g) → (own g c).memory ≡ c.args.self.now.memory
seen g c = ap (λ (p : LocalParts). p.memory) (same g c) ∙ ap (λ (d : Context). d.memory) c.self.view_is

counted : (g : _) (c : goal.In_ok-change g) → length (g.C.Change.makes c.args.change.now (take c.args.len (drop c.args.address c.args.self.now.memory))) ≡ c.args.len
counted g c =
    ap (λ (memory : List ℕ). length (g.C.Change.makes c.args.change.now (take c.args.len (drop c.args.address memory)))) (sym (seen g c))
    ∙ c.in_ok-change.ensures.count

abbrev new : (g : _) (c : goal.In_ok-change g) → LocalParts
new g c = own_memory c.change.new.self c.self.inside.view.now.memory

all_made : (g : _) (c : goal.In_ok-change g) → record (context_of c.self.inside) { memory = (new g c).memory; stores = (new g c).stores }
    ≡ with_stored c.args.self.now c.args.address (g.C.Change.makes c.args.change.now (take c.args.len (drop c.args.address c.args.self.now.memory)))
all_made g c =
    let now = c.args.self.now in
    let address = c.args.address in
    let makes = g.C.Change.makes c.args.change.now in
    let words = makes (take c.args.len (drop address (own g c).memory)) in
    let many : length words ≡ c.args.len = c.in_ok-change.ensures.count in
    let within : length words ≤ length now.memory - address = omega (arith, many, c.memory_len-own.ensures.len, c.if-len-own.false, c.if-address-own.false) in
    kept (context_of c.self.inside) now (own g c) (new g c) address words c.self.view_is within (same g c) (ap (own_memory c.change.new.self) (sym (before g c)) ∙ c.in_ok-change.ensures.ok)
    ∙ ap (λ (memory : List ℕ). with_stored now address (makes (take c.args.len (drop address memory)))) (seen g c)

pub returns-clause-acted : goal.returns-clause-acted
returns-clause-acted g c within =
    let now = c.args.self.now in
    let words = g.C.Change.makes c.args.change.now (take c.args.len (drop c.args.address now.memory)) in
    let none : now.fault ≡ None = grind arith in
    let many : length words ≡ c.args.len = counted g c in
    let all = all_made g c in
    (all ∙ sym (perform_all-stores now c.args.address words none (omega (arith, many, within))), ap (λ (d : Context). d.fault) all ∙ none)

pub returns-clause-stored : goal.returns-clause-stored
returns-clause-stored g c = all_made g c
