-- The context of which words are stored in the memory.
use Rattle.std.proofs.Common.{◌≡◌, ◌≤◌, ◌-◌, ◌++◌, ℕ, List, length, ap, ◌∙◌, arith}
use Rattle.bsp_model.specs.LocalParts.{LocalParts}
use Rattle.bsp_model.specs.Memory.{memory_written}
use Rattle.bsp_model.specs.Stores.{records}
use Rattle.bsp_step.specs.Context.{Context}
use Rattle.bsp_step.specs.Blocks.{with_stored}
use Rattle.bsp_step.proofs.Storing.{stored-written}

-- the context once the words inside the memory are stored
pub kept : (c d : Context) (own new : LocalParts) (start : ℕ) (words : List ℕ) → c ≡ d → length words ≤ length d.memory - start → own ≡ record { memory = c.memory; stores = c.stores }
    → new ≡ record { memory = memory_written own.memory start words; stores = own.stores ++ records start words } → record c { memory = new.memory; stores = new.stores } ≡ with_stored d start words
kept c d own new start words e within same made =
    let long : length words ≤ length c.memory - start = omega (arith, ap (λ (x : Context). length x.memory) e) in
    let written : LocalParts → LocalParts = λ p. record { memory = memory_written p.memory start words; stores = p.stores ++ records start words } in
    ap (λ (p : LocalParts). record c { memory = p.memory; stores = p.stores }) (made ∙ ap written same)
    ∙ ap (λ (m : List ℕ). record c { memory = m; stores = c.stores ++ records start words }) (stored-written c.memory start words long)
    ∙ ap (λ (x : Context). with_stored x start words) e
