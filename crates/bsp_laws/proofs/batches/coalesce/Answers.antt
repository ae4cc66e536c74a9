use Rattle.std.proofs.Common.{◌≡◌, ◌∙◌, ◌+◌, ◌++◌, List, drop, get_or, ap, subst, sym}
use Rattle.std.specs.List.{list_any}
use Rattle.std.proofs.lemmas.List.{take_rest}
use Rattle.bsp_incr.specs.declared.edit.Edit.{Edit}
use Rattle.bsp_incr.specs.declared.edit.Edit.TheVariants.{Word}
use Rattle.bsp_incr.specs.Undo.{same_part}
use Rattle.bsp_laws.specs.Batches.{last_edits, IsInPlaceOf}
use Rattle.bsp_laws.proofs.Coalescing.{passed_over, taken_in, all_done, in_place}
use Rattle.bsp_laws.proofs.batches.coalesce.Goals as goal
use Rattle.bsp_laws.proofs.batches.coalesce.Goals.{then-not-is_overwritten+in_ok-push, else-not-is_overwritten}

pub loop-k-preserved : goal.loop-k-preserved
loop-k-preserved c =
    let es : List Edit = c.args.edits.now in
    let k = c.loop-k.k in
    let none : Edit = Word 0 0 0 in
    let edit : Edit = get_or es k none in
    let told : list_any (same_part edit) (drop (k + 1) es) ≡ c.is_overwritten.result = ap (list_any (same_part edit)) (sym (take_rest es (k + 1))) ∙ sym c.is_overwritten.ensures in
    elim c.if-not-is_overwritten.branch [
      | then-not-is_overwritten+in_ok-push w ↦
          subst (λ (xs : List Edit). xs ++ last_edits (drop (k + 1) es) ≡ last_edits es) (sym (w.last-is ∙ w.in_ok-push.ensures.ok))
          (taken_in es c.loop-k.last k none c.loop-k-test.true (told ∙ w.if-not-is_overwritten.true) c.loop-k.invariant)
      | else-not-is_overwritten w ↦
          subst (λ (xs : List Edit). xs ++ last_edits (drop (k + 1) es) ≡ last_edits es) (sym w.last-is)
          (passed_over es c.loop-k.last k none c.loop-k-test.true (told ∙ w.if-not-is_overwritten.false) c.loop-k.invariant)
    ]

pub returns-clause-law : goal.returns-clause-law
returns-clause-law c =
    let es : List Edit = c.args.edits.now in
    subst (IsInPlaceOf es) (sym (all_done es c.loop-k.last c.loop-k.k c.loop-k-test.false c.loop-k.invariant)) (in_place es)
