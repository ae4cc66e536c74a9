use Rattle.std.proofs.Common.{◌∙◌, arith}
use Rattle.std.proofs.lemmas.List.{take_all}
use Rattle.bsp_model.proofs.Pages.{words_of_chunks}
use Rattle.bsp_model.proofs.memory.Memory.from_words.Goals as goal

pub returns : goal.returns
returns c =
    words_of_chunks c.loop-part.pages.items c.in_ok-to_vec.field-0.items c.args.words.now
    (c.loop-part.invariant.made ∙ take_all c.loop-part.part-index c.as_chunks.result.0.now (omega (arith, c.loop-part-test.false)) ∙ c.as_chunks.ensures.front)
    (c.in_ok-to_vec.ensures.items_if_clones_equal (λ x y h. h) ∙ c.as_chunks.ensures.back)
