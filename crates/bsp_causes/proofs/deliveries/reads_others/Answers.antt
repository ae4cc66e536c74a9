use Rattle.std.proofs.Common.{◌≡◌, ◌==◌, ◌&&◌, ◌||◌, true, false, not, get_or, sym, ◌∙◌}
use Rattle.std.proofs.lemmas.Bool.{eq-eqb, ne_eqb}
use Rattle.std.proofs.lemmas.Bool.Decides.{same_from_decides}
use Rattle.std.proofs.lemmas.List.Folds.{list_any_at, list_any_more}
use Rattle.bsp_model.specs.declared.request.Get.{Get}
use Rattle.bsp_deliver.specs.Requests.{words_read}
use Rattle.bsp_model.specs.Same.{same_words}
use Rattle.bsp_deliver.proofs.SameDelivery.{Decides-words}
use Rattle.bsp_causes.specs.DeliveryCauses.{reads_others}
use Rattle.bsp_causes.proofs.deliveries.reads_others.Goals as goal
use Rattle.bsp_causes.proofs.deliveries.reads_others.Goals.{else-get-owner-via-then-get-owner+else-not-get_reads_same_words, else-get-owner-via-else-get-owner}

abbrev no_get : Get
no_get = record { owner = 0; start = 0; len = 0; into = 0 }

pub returns-then-not-get_reads_same_words : goal.returns-then-not-get_reads_same_words
returns-then-not-get_reads_same_words c =
    let old = c.args.old.now in
    let new = c.args.new.now in
    let i = c.loop-get.get-index in
    let g = get_or c.args.gets.now i no_get in
    let own : (g.owner == c.args.owner) ≡ true = eq-eqb g.owner c.args.owner c.if-get-owner.true in
    let other : same_words (words_read old g) (words_read new g) ≡ false =
    sym (same_from_decides c.get_reads_same_words.result (same_words (words_read old g) (words_read new g)) c.get_reads_same_words.ensures (Decides-words (words_read old g) (words_read new g))) ∙ c.if-not-get_reads_same_words.true in
    let passes : reads_others old new c.args.owner g ≡ true = λ j. own j && not (other j) in
    sym (list_any_at (reads_others old new c.args.owner) c.args.gets.now i no_get c.loop-get-test.true passes)

pub loop-get-preserved : goal.loop-get-preserved
loop-get-preserved c =
    let old = c.args.old.now in
    let new = c.args.new.now in
    let i = c.loop-get.get-index in
    let g = get_or c.args.gets.now i no_get in
    let test = reads_others old new c.args.owner in
    let fails : test g ≡ false =
    elim c.else-get-owner.branch [
      | else-get-owner-via-then-get-owner+else-not-get_reads_same_words w ↦
          let own : (g.owner == c.args.owner) ≡ true = eq-eqb g.owner c.args.owner w.if-get-owner.true in
          let same : same_words (words_read old g) (words_read new g) ≡ true =
          sym (same_from_decides w.get_reads_same_words.result (same_words (words_read old g) (words_read new g)) w.get_reads_same_words.ensures (Decides-words (words_read old g) (words_read new g))) ∙ w.if-not-get_reads_same_words.false in
          λ j. own j && not (same j)
      | else-get-owner-via-else-get-owner w ↦
          let own : (g.owner == c.args.owner) ≡ false = ne_eqb g.owner c.args.owner w.if-get-owner.false in
          λ j. own j && not (same_words (words_read old g) (words_read new g))
    ] in
    list_any_more test c.args.gets.now i no_get c.loop-get-test.true ∙ (λ j. c.loop-get.invariant j || fails j)
