use Rattle.std.proofs.Common.{◌≡◌, ◌≢◌, ◌≤◌, ◌<◌, ◌∙◌, ℕ, List, Option, Bor, All, length, get_or, ap, sym, subst, arith}
use Rattle.std.specs.Option.{IfSome}
use Rattle.bsp_model.specs.PutsTo.{AreToNone}
use Rattle.bsp_model.specs.Replaced.{replaced}
use Rattle.bsp_model.specs.declared.layered.Apart.{Apart}
use Rattle.bsp_model.proofs.Replaced.{length-replaced}
use Rattle.bsp_model.proofs.Layers.{item_elsewhere}
use Rattle.bsp_step.specs.OutcomeParts.{OutcomeParts, no_outcome, outcome_of}
use Rattle.bsp_step.specs.Inside.Rows.{rows_of}
use Rattle.bsp_step.proofs.outcomes.Outcomes.next_putting_to.Goals as goal

pub next_putting_to-next-requires : goal.next_putting_to-next-requires
next_putting_to-next-requires c =
    let base = c.layers.result.0.now in
    let apart = c.in-Some-apart.apart.now in
    let laid : c.in-Some.rows ≡ replaced base apart.processes.items apart.items =
    subst (λ (o : Option (Bor (Apart (List OutcomeParts)))). IfSome o (λ a. c.in-Some.rows ≡ replaced base a.now.processes.items a.now.items)) c.in-Some-apart.is c.layers.ensures.both in
    omega (arith, c.requires, ap length (sym (ap rows_of c.in-Some.is) ∙ c.self.view_is), ap length laid, length-replaced base apart.processes.items apart.items)

pub returns-in-Some-apart-clause-before : goal.returns-in-Some-apart-clause-before
returns-in-Some-apart-clause-before c p behind below =
    let base = c.layers.result.0.now in
    let apart = c.in-Some-apart.apart.now in
    let ps = apart.processes.items in
    let laid : c.in-Some.rows ≡ replaced base ps apart.items =
    subst (λ (o : Option (Bor (Apart (List OutcomeParts)))). IfSome o (λ a. c.in-Some.rows ≡ replaced base a.now.processes.items a.now.items)) c.in-Some-apart.is c.layers.ensures.both in
    let first : All (λ q. c.args.from ≤ q → c.first_from.result ≤ q) ps = subst (λ (qs : List ℕ). All (λ q. c.args.from ≤ q → c.first_from.result ≤ q) qs) c.as_slice.ensures.value c.first_from.ensures.first in
    let other : (k : ℕ) → k < length ps → p ≢ get_or ps k 0 =
    λ k within same.
    let lowest : c.first_from.result ≤ get_or ps k 0 = first k 0 within (omega (arith, behind, same)) in
    omega (arith, below, c.min.ensures, lowest, same) in
    let there : outcome_of base p ≡ outcome_of c.args.self.now p =
    item_elsewhere base apart.items ps p no_outcome other
    ∙ ap (λ (os : List OutcomeParts). outcome_of os p) (sym laid ∙ sym (ap rows_of c.in-Some.is) ∙ c.self.view_is) in
    subst (λ (o : OutcomeParts). AreToNone c.args.targets.now o.puts) there (c.next_putting_to-next.ensures.before p behind (omega (arith, below, c.min.ensures)))
