use Rattle.std.proofs.Common.{◌≡◌, ◌<◌, ◌≤◌, ◌-◌, None, Some, length, min, sym, ap, ◌∙◌, arith}
use Rattle.std.proofs.lemmas.Bool.Decides.{nat_tests}
use Rattle.bsp_model.specs.declared.fault.Fault.TheVariants.{BadLocal}
use Rattle.bsp_model.specs.LocalParts.{LocalParts}
use Rattle.bsp_model.specs.Workspace.{own_memory}
use Rattle.bsp_step.specs.Context.{Context}
use Rattle.bsp_step.specs.CtxInside.{context_of}
use Rattle.bsp_step.specs.ViewParts.{ViewParts}
use Rattle.bsp_step.specs.Blocks.{stores, with_stored}
use Rattle.bsp_step.specs.Perform.{perform_all}
use Rattle.bsp_step.proofs.Performing.{perform_all-kept}
use Rattle.bsp_step.proofs.StoredLists.{kept}
use Rattle.bsp_step.proofs.Storing.{stores_within, stores_past}
use Rattle.bsp_step.proofs.ctx.Ctx.store_words.Goals as goal

pub returns-in-Some-clause-acted : goal.returns-in-Some-clause-acted
returns-in-Some-clause-acted c =
    let fault : c.args.self.now.fault ≡ Some c.in-Some.fault = ap (λ (d : Context). d.fault) (sym c.self.view_is) ∙ c.in-Some.is in
    (sym (perform_all-kept c.args.self.now (stores c.args.address c.args.words.now) c.in-Some.fault fault), fault)

pub returns-then-not-is_empty-clause-acted : goal.returns-then-not-is_empty-clause-acted
returns-then-not-is_empty-clause-acted c =
    let now = c.args.self.now in
    let inside = c.split_at.result.0.now in
    let none : now.fault ≡ None = grind arith in
    let some : 0 < length c.split_at.result.1.now = grind (arith, nat_tests) in
    let few : c.min.result ≡ min (length c.args.words.now) (length now.memory - c.args.address) = omega (arith, c.memory_len.ensures.len) in
    let within : length inside ≤ length now.memory - c.args.address = omega (arith, few, c.split_at.ensures.front_len) in
    let before : c.view.inside.memory ≡ c.self.inside.view.now.memory = ap (λ (v : ViewParts). v.memory) c.view.view_is in
    let own = own_memory c.deref_mut-workspace.result.now c.view.inside.memory in
    let all = kept (context_of c.self.inside) now own _ c.args.address inside c.self.view_is within (λ i. own_memory (c.deref_mut-workspace.ensures.value i) (before i)) (ap (own_memory c.store.new.self) (sym before) ∙ c.in_ok-store.ensures.ok) in
    let stopped = c.refuse.ensures.kept ∙ ap (λ (d : Context). record d { fault = Some BadLocal }) all in
    rw c.refuse.ensures.answer
    (stores_past now c.refuse.new.self c.args.address c.min.result c.args.words.now inside c.split_at.result.1.now none c.split_at.ensures.front c.split_at.ensures.back few some stopped, ap (λ (d : Context). d.fault) stopped)

abbrev new : goal.Else-not-is_empty → LocalParts
new c = own_memory c.store.new.self c.self.inside.view.now.memory

all_stored : (c : goal.Else-not-is_empty) → (record (context_of c.self.inside) { memory = (new c).memory; stores = (new c).stores } ≡ perform_all c.args.self.now (stores c.args.address c.args.words.now))
    × (record (context_of c.self.inside) { memory = (new c).memory; stores = (new c).stores } ≡ with_stored c.args.self.now c.args.address c.args.words.now)
all_stored c =
    let now = c.args.self.now in
    let inside = c.split_at.result.0.now in
    let all : length c.split_at.result.1.now ≡ 0 = grind (arith, nat_tests) in
    let within : length inside ≤ length now.memory - c.args.address = omega (arith, c.memory_len.ensures.len) in
    let before : c.view.inside.memory ≡ c.self.inside.view.now.memory = ap (λ (v : ViewParts). v.memory) c.view.view_is in
    let own = own_memory c.deref_mut-workspace.result.now c.view.inside.memory in
    let made = kept (context_of c.self.inside) now own (new c) c.args.address inside c.self.view_is within (λ i. own_memory (c.deref_mut-workspace.ensures.value i) (before i)) (ap (own_memory c.store.new.self) (sym before) ∙ c.in_ok-store.ensures.ok) in
    stores_within now _ c.args.address c.min.result c.args.words.now inside c.split_at.result.1.now (grind arith) c.split_at.ensures.front c.split_at.ensures.back within all made

pub returns-clause-acted : goal.returns-clause-acted
returns-clause-acted c =
    let none : c.args.self.now.fault ≡ None = grind arith in
    ((all_stored c).0, ap (λ (d : Context). d.fault) (all_stored c).1 ∙ none)

pub returns-clause-stored : goal.returns-clause-stored
returns-clause-stored c = (all_stored c).1
