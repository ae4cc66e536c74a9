use Rattle.std.proofs.Common.{◌≡◌, ℕ, ◌<◌, ◌==◌, Bool, true, false, List, filter, drop, get_or, length, sym, ◌∙◌, arith, subst}
use Rattle.std.proofs.lemmas.Bool.{false≢true}
use Rattle.std.proofs.lemmas.List.{get_or_default}
use Rattle.bsp_deliver.specs.Inside.Marks.{AreMarkedUnless}
use Rattle.bsp_deliver.proofs.Unmarked.{one_marked, mark_stays, marked_more}
use Rattle.bsp_deliver.proofs.marking.mark_unaligned.Goals as goal
use Rattle.bsp_deliver.proofs.marking.mark_unaligned.Goals.{then-not-contains+then-not-are_same_to, else-not-contains, else-not-contains-via-then-not-contains+else-not-are_same_to, else-not-contains-via-else-not-contains}

pub loop-d-preserved : goal.loop-d-preserved
loop-d-preserved g c =
    let d : ℕ = c.loop-d.d in
    let marks : List Bool = c.loop-d.marks in
    let S : ℕ → Type 0 = λ k. filter (λ r. g.R.Addressed.addressee r == k) (drop c.args.from c.args.old.now) ≡ filter (λ r. g.R.Addressed.addressee r == k) (drop c.args.from c.args.new.now) in
    let within : d < length marks = omega (arith, c.loop-d-test.true, c.count-d-end.ensures, c.loop-d.invariant.count) in
    let here : get_or marks d true ≡ get_or marks d false = get_or_default marks d true false within in
    let step : AreMarkedUnless (λ k. k ≡ d → S k) marks c.if-not-contains.marks =
    elim c.if-not-contains.branch [
      | then-not-contains+then-not-are_same_to w ↦
          subst (λ (ms : List Bool). AreMarkedUnless (λ k. k ≡ d → S k) marks ms) (sym (w.marks-is ∙ w.insert.ensures))
          (one_marked S marks d within (λ s. false≢true (sym w.if-not-are_same_to.true ∙ w.are_same_to.ensures.1 s)))
      | else-not-contains w ↦
          subst (λ (ms : List Bool). AreMarkedUnless (λ k. k ≡ d → S k) marks ms) (sym w.marks-is)
          (mark_stays S marks d
          (λ f. elim w.else-not-contains.branch [
            | else-not-contains-via-then-not-contains+else-not-are_same_to v ↦ v.are_same_to.ensures.0 v.if-not-are_same_to.false
            | else-not-contains-via-else-not-contains v ↦ absurd (false≢true (sym f ∙ here ∙ sym c.contains.ensures ∙ v.if-not-contains.false))
          ]))
    ] in
    marked_more S c.args.marks.now marks c.if-not-contains.marks d c.loop-d.invariant step
