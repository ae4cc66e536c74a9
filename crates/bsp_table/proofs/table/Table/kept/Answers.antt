use Rattle.std.proofs.Common.{◌++◌, ◌∷◌, [], ℕ, not, sym, ap, ◌∙◌, get_or}
use Rattle.std.proofs.lemmas.List.{get_or_read}
use Rattle.bsp_table.specs.NextTable.{is_popped}
use Rattle.bsp_table.proofs.NextTables.{kept_more, kept_same, is_popped-one}
use Rattle.bsp_table.proofs.table.Table.kept.Goals as goal
use Rattle.bsp_table.proofs.table.Table.kept.Goals.{then-not-contains+in_ok-copy+in_ok-push, else-not-contains}

pub loop-slot-preserved : goal.loop-slot-preserved
loop-slot-preserved c =
    let slots = c.as_slice-slots.result.now in
    let n = c.loop-slot.slot-counter in
    let f = λ (slot : ℕ). get_or slots slot [] in
    let p = λ (slot : ℕ). not (is_popped (c.args.popped.now ∷ []) slot) in
    elim c.if-not-contains.branch [
      | then-not-contains+in_ok-copy+in_ok-push w ↦
          w.kept-is ∙ w.in_ok-push.ensures.ok
          ∙ ap (λ x. c.loop-slot.kept ++ x ∷ []) (w.in_ok-copy.ensures ∙ get_or_read slots n w.index-slots-slot.result c.loop-slot-test.true w.index-slots-slot.is [])
          ∙ ap (λ ks. ks ++ f n ∷ []) c.loop-slot.invariant
          ∙ sym (kept_more f p n (ap not (is_popped-one c.args.popped.now n ∙ sym c.contains.ensures.value ∙ w.if-not-contains.true)))
      | else-not-contains w ↦
          w.kept-is ∙ c.loop-slot.invariant
          ∙ sym (kept_same f p n (ap not (is_popped-one c.args.popped.now n ∙ sym c.contains.ensures.value ∙ w.if-not-contains.false)))
    ]
