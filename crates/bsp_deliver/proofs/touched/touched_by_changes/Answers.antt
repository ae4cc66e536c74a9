use Rattle.std.proofs.Common.{◌≡◌, ℕ, ◌<◌, [], List, Bool, true, false, map, length, replicate, refl, sym, ap, ◌∙◌, arith, subst}
use Rattle.std.proofs.lemmas.Bool.{OnTrue_at}
use Rattle.std.proofs.lemmas.List.{length-replicate, get_or-replicate}
use Rattle.bsp_step.specs.OutcomeParts.{OutcomeParts, no_outcome, outcome_of}
use Rattle.bsp_deliver.specs.Requests.{words_read}
use Rattle.bsp_deliver.specs.Delivery.{delivery_parts}
use Rattle.bsp_deliver.specs.Touched.{AreTouched}
use Rattle.bsp_deliver.specs.Inside.Comparison.{ReadsSame}
use Rattle.bsp_deliver.specs.Inside.Marks.{AreMarkedUnless}
use Rattle.bsp_deliver.proofs.Unmarked.{unmarked_within}
use Rattle.bsp_deliver.proofs.SameParts.{brought_and_read, brought_alone}
use Rattle.bsp_deliver.proofs.touched.touched_by_changes.Goals as goal

pub mark_changes-requires-clause-as_many : goal.mark_changes-requires-clause-as_many
mark_changes-requires-clause-as_many c = ap length c.none-touched.ensures ∙ length-replicate c.len.result false ∙ c.len.ensures

pub mark_readers-requires-clause-kept : goal.mark_readers-requires-clause-kept
mark_readers-requires-clause-kept c =
    λ p f.
    let marks : List Bool = c.mark_changes.new.marks in
    let many : length c.none-touched.result ≡ length c.args.new.now = ap length c.none-touched.ensures ∙ length-replicate c.len.result false ∙ c.len.ensures in
    let known : p < length c.args.new.now = omega (arith, unmarked_within marks p f, c.mark_changes.ensures.count, many) in
    let all = ((c.mark_changes.ensures.each p).0 f).1 in
    let same = all p known in
    let own = same.own refl in
    own.1

-- where no process was marked at first, those are not marked of which the rest holds
touched_of_marks : (os us : List OutcomeParts) (none marks : List Bool) → none ≡ replicate (length us) false → AreMarkedUnless (λ d. delivery_parts os d ≡ delivery_parts us d) none marks → AreTouched os us marks
touched_of_marks os us none marks none_is given =
    let h : AreMarkedUnless (λ d. delivery_parts os d ≡ delivery_parts us d) (replicate (length us) false) marks = subst (λ (bs : List Bool). AreMarkedUnless (λ d. delivery_parts os d ≡ delivery_parts us d) bs marks) none_is given in
    record {
      count = h.count ∙ length-replicate (length us) false;
      each = λ d l. (λ unmarked. ((h.each d).0 unmarked).1, λ same. (h.each d).1 (get_or-replicate (length us) d false true l, same));
    }

pub returns : goal.returns
returns c =
    let os = c.args.old.now in
    let us = c.args.new.now in
    let none : c.none-touched.result ≡ replicate (length us) false = c.none-touched.ensures ∙ ap (λ n. replicate n false) c.len.ensures in
    let many : length c.none-touched.result ≡ length us = ap length none ∙ length-replicate (length us) false in
    touched_of_marks os us c.none-touched.result c.mark_readers.new.marks none
    (brought_and_read os us c.none-touched.result c.mark_changes.new.marks c.mark_readers.new.marks c.requires.count many c.mark_changes.ensures c.mark_readers.ensures)

pub returns-then-is_without : goal.returns-then-is_without
returns-then-is_without c =
    let os = c.args.old.now in
    let us = c.args.new.now in
    let none : c.none-touched.result ≡ replicate (length us) false = c.none-touched.ensures ∙ ap (λ n. replicate n false) c.len.ensures in
    let many : length c.none-touched.result ≡ length us = ap length none ∙ length-replicate (length us) false in
    let nobody : (d : ℕ) → d < length us → ReadsSame os us d =
    λ d l. let unread : (outcome_of us d).gets ≡ [] = OnTrue_at c.if-is_without.true c.is_without.ensures d no_outcome l in
    ap (map (words_read os)) unread ∙ sym (ap (map (words_read us)) unread) in
    touched_of_marks os us c.none-touched.result c.mark_changes.new.marks none
    (brought_alone os us c.none-touched.result c.mark_changes.new.marks c.requires.count many c.mark_changes.ensures nobody)
