use Rattle.std.proofs.Common.{◌≡◌, ℕ, ◌<◌, Bool, true, false, List, All, map, get_or, length, sym, ◌∙◌, arith, subst}
use Rattle.std.proofs.lemmas.Bool.{false≢true}
use Rattle.std.proofs.lemmas.List.{get_or_default}
use Rattle.bsp_model.specs.declared.request.Get.{Get}
use Rattle.bsp_deliver.specs.Requests.{words_read}
use Rattle.bsp_deliver.specs.Readable.{IsReadable}
use Rattle.bsp_deliver.specs.Inside.Comparison.{ReadsSame}
use Rattle.bsp_deliver.specs.Inside.Marks.{AreMarkedUnless}
use Rattle.bsp_deliver.proofs.Unmarked.{none_marked, one_marked, mark_stays, marked_more, marked_all}
use Rattle.bsp_deliver.proofs.SameParts.{readable_of}
use Rattle.bsp_deliver.proofs.touched.mark_readers.Goals as goal
use Rattle.bsp_deliver.proofs.touched.mark_readers.Goals.{then-not-contains+then-not-read_same_words, else-not-contains, else-not-contains-via-then-not-contains+else-not-read_same_words, else-not-contains-via-else-not-contains}

pub loop-p-init : goal.loop-p-init
loop-p-init c = none_marked (λ d. d < 0 → ReadsSame c.args.old.now c.args.new.now d) c.args.marks.now (λ d f l. absurd (omega (arith, l)))

pub read_same_words-requires-clause-before : goal.read_same_words-requires-clause-before
read_same_words-requires-clause-before c =
    let os = c.args.old.now in
    let us = c.args.new.now in
    let p : ℕ = c.loop-p.p in
    let marks : List Bool = c.loop-p.marks in
    let known : p < length us = omega (arith, c.loop-p-test.true, c.len-p-end.ensures) in
    let free : get_or marks p true ≡ false = get_or_default marks p true false (omega (arith, known, c.requires.as_many, c.loop-p.invariant.count)) ∙ sym c.contains.ensures ∙ c.if-not-contains.true in
    let kept = c.requires.kept p ((c.loop-p.invariant.each p).0 free).0 in
    subst (λ (gs : List Get). All (IsReadable os) gs) (kept ∙ sym c.gets.ensures) (readable_of os p c.requires.before (omega (arith, known, c.requires.count)))

pub read_same_words-requires-clause-after : goal.read_same_words-requires-clause-after
read_same_words-requires-clause-after c =
    let us = c.args.new.now in
    let p : ℕ = c.loop-p.p in
    subst (λ (gs : List Get). All (IsReadable us) gs) (sym c.gets.ensures) (readable_of us p c.requires.after (omega (arith, c.loop-p-test.true, c.len-p-end.ensures)))

pub loop-p-preserved : goal.loop-p-preserved
loop-p-preserved c =
    let os = c.args.old.now in
    let us = c.args.new.now in
    let p : ℕ = c.loop-p.p in
    let marks : List Bool = c.loop-p.marks in
    let S : ℕ → Type 0 = ReadsSame os us in
    let read : List Get → Type 0 = λ gs. map (words_read os) gs ≡ map (words_read us) gs in
    let known : p < length us = omega (arith, c.loop-p-test.true, c.len-p-end.ensures) in
    let within : p < length marks = omega (arith, known, c.requires.as_many, c.loop-p.invariant.count) in
    let unread : get_or marks p true ≡ get_or marks p false = get_or_default marks p true false within in
    let step : AreMarkedUnless (λ d. d ≡ p → S d) marks c.if-not-contains.marks =
    elim c.if-not-contains.branch [
      | then-not-contains+then-not-read_same_words w ↦
          subst (λ (ms : List Bool). AreMarkedUnless (λ d. d ≡ p → S d) marks ms) (sym (w.marks-is ∙ w.insert.ensures))
          (one_marked S marks p within (λ s. false≢true (sym w.if-not-read_same_words.true ∙ w.read_same_words.ensures.1 (subst read (sym w.gets.ensures) s))))
      | else-not-contains w ↦
          subst (λ (ms : List Bool). AreMarkedUnless (λ d. d ≡ p → S d) marks ms) (sym w.marks-is)
          (mark_stays S marks p
          (λ f. elim w.else-not-contains.branch [
            | else-not-contains-via-then-not-contains+else-not-read_same_words v ↦ subst read v.gets.ensures (v.read_same_words.ensures.0 v.if-not-read_same_words.false)
            | else-not-contains-via-else-not-contains v ↦ absurd (false≢true (sym f ∙ unread ∙ sym c.contains.ensures ∙ v.if-not-contains.false))
          ]))
    ] in
    marked_more S c.args.marks.now marks c.if-not-contains.marks p c.loop-p.invariant step

pub returns : goal.returns
returns c =
    marked_all (ReadsSame c.args.old.now c.args.new.now) c.args.marks.now c.loop-p.marks c.loop-p.p
    (omega (arith, c.requires.as_many, c.loop-p-test.false, c.len-p-end.ensures)) c.loop-p.invariant
