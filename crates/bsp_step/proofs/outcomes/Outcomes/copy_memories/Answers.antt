use Rattle.std.proofs.Common.{◌≡◌, ℕ, List, Option, Bor, map, ap, subst, sym, ◌∙◌}
use Rattle.std.specs.Option.{IfSome}
use Rattle.std.proofs.lemmas.Result.{on_ok_weaker}
use Rattle.bsp_model.specs.Replaced.{replaced}
use Rattle.bsp_model.specs.declared.layered.Apart.{Apart}
use Rattle.bsp_model.proofs.Replaced.{map-replaced}
use Rattle.bsp_step.specs.OutcomeParts.{OutcomeParts}
use Rattle.bsp_step.specs.Inside.Rows.{rows_of}
use Rattle.bsp_step.proofs.outcomes.Outcomes.copy_memories.Goals as goal

pub returns : goal.returns
returns c =
    let base = c.layers.result.0.now in
    let apart = c.in-Some-apart.apart.now in
    let left : OutcomeParts → List ℕ = λ o. o.memory in
    let laid : c.in-Some.rows ≡ replaced base apart.processes.items apart.items =
    subst (λ (o : Option (Bor (Apart (List OutcomeParts)))). IfSome o (λ a. c.in-Some.rows ≡ replaced base a.now.processes.items a.now.items)) c.in-Some-apart.is c.layers.ensures.both in
    on_ok_weaker c.add_replaced.result
    (λ e. e
    ∙ (λ i. replaced (c.memories-3.ensures i) (c.as_slice-processes.ensures.value i) (c.memories-4.ensures i))
    ∙ sym (map-replaced left base apart.processes.items apart.items)
    ∙ ap (λ (os : List OutcomeParts). map left os) (sym laid ∙ sym (ap rows_of c.in-Some.is) ∙ c.self.view_is))
    c.add_replaced.ensures
