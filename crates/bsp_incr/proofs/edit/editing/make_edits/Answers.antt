use Rattle.std.proofs.Common.{◌≡◌, ◌∙◌, ◌≤◌, ◌+◌, List, drop, length, ap, sym, subst, arith, vec_len}
use Rattle.std.specs.Prelude.{option_to_list, vec_capacity}
use Rattle.std.proofs.lemmas.List.{drop_more}
use Rattle.bsp_model.specs.declared.input.Input.{Input}
use Rattle.bsp_incr.specs.declared.edit.Edit.{Edit}
use Rattle.bsp_incr.specs.declared.edit.former.Former.{Former}
use Rattle.bsp_incr.specs.Edits.{edited}
use Rattle.bsp_incr.specs.Inside.Formers.{restored}
use Rattle.bsp_incr.proofs.Restoring.{restored-last}
use Rattle.bsp_incr.proofs.edit.editing.make_edits.Goals as goal
use Rattle.bsp_incr.proofs.edit.editing.make_edits.Goals.{in-Some, in_default}

pub loop-edit-preserved : goal.loop-edit-preserved
loop-edit-preserved c =
    let i = c.loop-edit.edit-index in
    let edits : List Edit = c.args.edits.now in
    let before : Input = c.loop-edit.input in
    let after : Input = c.make_edit.new.input in
    let formers : List Former = c.loop-edit.formers.items in
    let rest : edited after (drop (i + 1) edits) ≡ edited c.args.input.now edits =
    ap (λ (j : Input). edited j (drop (i + 1) edits)) c.in-Ok.ensures.made ∙ sym (ap (edited before) (drop_more edits i _ c.loop-edit-test.true)) ∙ c.loop-edit.invariant.rest in
    elim c.match-former.branch [
      | in-Some w ↦
          let back : restored after (option_to_list c.in-Ok.former) ≡ before = c.in-Ok.ensures.former in
          let put = ap (λ f. restored after (option_to_list f)) (sym w.in-Some.is) ∙ back in
          record {
            rest = rest;
            back =
                ap (λ v. restored after v.items) w.formers-is ∙ ap (restored after) w.push_reserved.ensures.items ∙ restored-last after formers w.in-Some.former
                ∙ ap (λ (j : Input). restored j formers) put ∙ c.loop-edit.invariant.back;
            few = subst (λ v. vec_len v ≤ i + 1) (sym w.formers-is) (omega (arith, w.push_reserved.ensures.len, c.loop-edit.invariant.few));
            room = subst (λ v. length edits ≤ vec_capacity v) (sym w.formers-is) (omega (arith, w.push_reserved.ensures.capacity, c.loop-edit.invariant.room));
          }
      | in_default w ↦
          let back : restored after (option_to_list c.in-Ok.former) ≡ before = c.in-Ok.ensures.former in
          let same = ap (λ f. restored after (option_to_list f)) (sym w.in_default.is) ∙ back in
          record {
            rest = rest;
            back = ap (λ v. restored after v.items) w.formers-is ∙ ap (λ (j : Input). restored j formers) same ∙ c.loop-edit.invariant.back;
            few = subst (λ v. vec_len v ≤ i + 1) (sym w.formers-is) (omega (arith, c.loop-edit.invariant.few));
            room = subst (λ v. length edits ≤ vec_capacity v) (sym w.formers-is) c.loop-edit.invariant.room;
          }
    ]
