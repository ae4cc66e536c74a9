use Rattle.std.proofs.Common.{◌≡◌, ℕ, [], List, sym, ap, ◌∙◌, get_or}
use Rattle.std.proofs.lemmas.List.{get_or-map}
use Rattle.bsp_model.specs.declared.request.Get.{Get}
use Rattle.bsp_deliver.specs.Requests.{words_read}
use Rattle.bsp_deliver.proofs.parcels.read_the_same.Goals as goal

abbrev no_get : Get
no_get = record { owner = 0; start = 0; len = 0; into = 0 }

pub returns-then-not-get_reads_same_words : goal.returns-then-not-get_reads_same_words
returns-then-not-get_reads_same_words c =
    let gets = c.args.gets.now in
    let i = c.loop-get.get-index in (
      λ t. cc,
      λ h.
          let here : words_read c.args.old.now (get_or gets i no_get) ≡ words_read c.args.new.now (get_or gets i no_get) =
          sym (get_or-map (words_read c.args.old.now) gets i no_get [] c.loop-get-test.true) ∙ ap (λ (xs : List (List ℕ)). get_or xs i []) h ∙ get_or-map (words_read c.args.new.now) gets i no_get [] c.loop-get-test.true in
          sym c.if-not-get_reads_same_words.true ∙ c.get_reads_same_words.ensures.1 here,
    )
