use Rattle.std.proofs.Common.{◌≡◌, ◌∙◌, Option, None, Some, ap, arith, refl, sym, true, false, ℕ}
use Rattle.std.specs.Prelude.{is_some, not}
use Rattle.std.proofs.lemmas.Bool.{OnTrue_at, true≢false}
use Rattle.std.proofs.lemmas.List.Sums.{list_all-from_AllPass}
use Rattle.bsp_step.specs.OutcomeParts.{OutcomeParts}
use Rattle.bsp_deliver.specs.SyncFault.{same_tag}
use Rattle.bsp_deliver.proofs.Senders.{each_outcome}
use Rattle.bsp_deliver.proofs.faults.is_same_tag_choice.Goals as goal

nothing_there : {X : Type 0} (o : Option X) → is_some o ≡ false → o ≡ None
nothing_there None none = refl
nothing_there (Some x) none = absurd (true≢false none)

pub returns : goal.returns
returns c =
    let os = c.args.outcomes.now in
    let tag = c.args.first.now.tag in
    sym
    (list_all-from_AllPass (λ (o : OutcomeParts). same_tag tag o.tag) os
    (each_outcome (λ o. same_tag tag o.tag ≡ true) os (λ k l. c.loop-pid.invariant k (omega (arith, l, c.loop-pid-test.false, c.len-pid-end.ensures)))))

pub returns-then-is_without : goal.returns-then-is_without
returns-then-is_without c =
    let os = c.args.outcomes.now in
    let tag = c.args.first.now.tag in
    let none = ap (λ (o : OutcomeParts). o.tag) (sym c.first.view_is) ∙ nothing_there c.first.inside.tag (c.is_none.ensures ∙ ap not c.if-is_none.true) in
    let all = OnTrue_at c.if-is_without.true c.is_without.ensures in
    sym
    (list_all-from_AllPass (λ (o : OutcomeParts). same_tag tag o.tag) os
    (λ k d inside. ap (same_tag tag) (all k d inside) ∙ ap (λ (t : Option ℕ). same_tag t None) none))
