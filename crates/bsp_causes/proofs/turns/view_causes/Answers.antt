use Rattle.std.proofs.Common.{◌≡◌, ◌==◌, ◌++◌, false, not, ap, ◌∙◌}
use Rattle.std.specs.Cmp.Lexicographic.{pointwise}
use Rattle.bsp_step.specs.ViewParts.{ViewParts}
use Rattle.bsp_deliver.proofs.SameDelivery.{Decides-pointwise, Decides-words}
use Rattle.bsp_table.specs.Same.{same_table}
use Rattle.bsp_model.specs.Same.{same_message, same_words}
use Rattle.bsp_incr.proofs.Comparing.{Decides-table, Decides-message}
use Rattle.bsp_causes.specs.TurnCauses.{other_words}
use Rattle.bsp_causes.proofs.Handing.{and_given}
use Rattle.bsp_causes.proofs.Sameness.{test_along}
use Rattle.bsp_causes.proofs.turns.view_causes.Goals as goal

pub returns : goal.returns
returns g c =
    let v = c.args.old.now in
    let w = c.args.new.now in
    let args : c.are_same_words.result ≡ same_words v.args w.args =
    test_along c.are_same_words.result (same_words v.args w.args) (ap (λ (x : ViewParts). x.args) c.old.view_is) (ap (λ (x : ViewParts). x.args) c.new.view_is) c.are_same_words.ensures (Decides-words v.args w.args) in
    let queue : c.same.result ≡ pointwise same_message v.queue w.queue =
    test_along c.same.result (pointwise same_message v.queue w.queue) (ap (λ (x : ViewParts). x.queue) c.old.view_is) (ap (λ (x : ViewParts). x.queue) c.new.view_is) c.same.ensures (Decides-pointwise Decides-message v.queue w.queue) in
    let table : c.same-2.result ≡ same_table v.table w.table =
    test_along c.same-2.result (same_table v.table w.table) (ap (λ (x : ViewParts). x.table) c.old.view_is) (ap (λ (x : ViewParts). x.table) c.new.view_is) c.same-2.ensures (Decides-table v.table w.table) in
    let old_tag = ap (λ (x : ViewParts). x.tag_size) c.old.view_is in
    let new_tag = ap (λ (x : ViewParts). x.tag_size) c.new.view_is in
    let none = ap (λ xs. xs ++ other_words (g.P.Program.looks c.args.program.now v) v.memory w.memory) c.new-2.ensures in
    and_given c.add_other_words-added.result _ c.and.result _ c.and.ensures (λ added. (λ i. record {
      is_new = false;
      args = not (args i);
      queue = not (queue i);
      table = not (table i);
      tag_size = not (old_tag i == new_tag i);
      words = (added ∙ none) i;
    })) c.add_other_words-added.ensures
