use Rattle.std.proofs.Common.{◌≡◌, ◌<◌, ◌+◌, ◌++◌, ◌∷◌, ℕ, [], List, length, map, take, sym, ap, ◌∙◌, get_or}
use Rattle.std.proofs.lemmas.List.{get_or-map, take_more, map-append}
use Rattle.bsp_model.specs.declared.request.Get.{Get}
use Rattle.bsp_deliver.specs.Requests.{words_read}
use Rattle.bsp_deliver.proofs.SameParts.{unmarked_words}
use Rattle.bsp_deliver.proofs.touched.read_same_words.Goals as goal
use Rattle.bsp_deliver.proofs.touched.read_same_words.Goals.{else-contains-via-then-contains+else-not-get_reads_same_words, else-contains-via-else-contains}

abbrev no_get : Get
no_get = record { owner = 0; start = 0; len = 0; into = 0 }

-- one get more that reads the same words
same_more : (before after : Get → List ℕ) (gets : List Get) (i : ℕ) → i < length gets → map before (take i gets) ≡ map after (take i gets) → before (get_or gets i no_get) ≡ after (get_or gets i no_get) → map before (take (i + 1) gets) ≡ map after (take (i + 1) gets)
same_more before after gets i within so here =
    ap (map before) (take_more gets i no_get within)
    ∙ map-append before (take i gets) (get_or gets i no_get ∷ [])
    ∙ (λ k. so k ++ here k ∷ [])
    ∙ sym (map-append after (take i gets) (get_or gets i no_get ∷ []))
    ∙ ap (map after) (sym (take_more gets i no_get within))

pub loop-get-preserved : goal.loop-get-preserved
loop-get-preserved c =
    let gets = c.args.gets.now in
    let i = c.loop-get.get-index in
    let here : words_read c.args.old.now (get_or gets i no_get) ≡ words_read c.args.new.now (get_or gets i no_get) =
    elim c.else-contains.branch [
      | else-contains-via-then-contains+else-not-get_reads_same_words w ↦ w.get_reads_same_words.ensures.0 w.if-not-get_reads_same_words.false
      | else-contains-via-else-contains w ↦
          unmarked_words c.args.old.now c.args.new.now c.args.changed.now (get_or gets i no_get) c.requires.unchanged c.requires.marks (c.requires.after i no_get c.loop-get-test.true).known (sym c.contains.ensures ∙ w.if-contains.false)
    ] in
    same_more (words_read c.args.old.now) (words_read c.args.new.now) gets i c.loop-get-test.true c.loop-get.invariant here

pub returns-then-not-get_reads_same_words : goal.returns-then-not-get_reads_same_words
returns-then-not-get_reads_same_words c =
    let gets = c.args.gets.now in
    let i = c.loop-get.get-index in (
      λ t. cc,
      λ h.
          let here : words_read c.args.old.now (get_or gets i no_get) ≡ words_read c.args.new.now (get_or gets i no_get) =
          sym (get_or-map (words_read c.args.old.now) gets i no_get [] c.loop-get-test.true) ∙ ap (λ (xs : List (List ℕ)). get_or xs i []) h ∙ get_or-map (words_read c.args.new.now) gets i no_get [] c.loop-get-test.true in
          sym c.if-not-get_reads_same_words.true ∙ c.get_reads_same_words.ensures.1 here,
    )
