use Rattle.std.proofs.Common.{◌≡◌, ◌∙◌, All, List, Option, Bor, ap, sym, subst}
use Rattle.std.specs.Option.{IfSome}
use Rattle.std.proofs.lemmas.Bool.{OnTrue_at, OnTrue_from}
use Rattle.bsp_model.specs.Replaced.{replaced}
use Rattle.bsp_model.specs.declared.layered.Apart.{Apart}
use Rattle.bsp_model.proofs.Replaced.{All-replaced}
use Rattle.bsp_step.specs.OutcomeParts.{OutcomeParts}
use Rattle.bsp_step.specs.Inside.Rows.{rows_of}
use Rattle.bsp_step.specs.ListKind.{IsWithout}
use Rattle.bsp_step.proofs.outcomes.Outcomes.is_without.Goals as goal

pub returns-then-is_without : goal.returns-then-is_without
returns-then-is_without c =
    let kind = c.args.kind in
    let base = c.layers.result.0.now in
    let apart = c.in-Some-apart.apart.now in
    let laid : c.in-Some.rows ≡ replaced base apart.processes.items apart.items =
    subst (λ (o : Option (Bor (Apart (List OutcomeParts)))). IfSome o (λ a. c.in-Some.rows ≡ replaced base a.now.processes.items a.now.items)) c.in-Some-apart.is c.layers.ensures.both in
    OnTrue_from c.is_without-then-is_without.result _ (λ yes.
    subst (λ (os : List OutcomeParts). All (IsWithout kind) os) (sym laid ∙ sym (ap rows_of c.in-Some.is) ∙ c.self.view_is)
    (All-replaced (IsWithout kind) base apart.processes.items apart.items (OnTrue_at yes c.is_without-then-is_without.ensures) (OnTrue_at c.if-is_without.true c.is_without.ensures)))
