use Rattle.std.proofs.Common.{◌≡◌, length, true, ◌∙◌, arith}
use Rattle.std.specs.Vec.{with_items}
use Rattle.std.proofs.lemmas.Bool.{OnTrue_at}
use Rattle.std.proofs.lemmas.Bool.Decides.{nat_tests}
use Rattle.std.proofs.lemmas.List.{take_all, with_items_is}
use Rattle.bsp_model.proofs.Pages.{words_len, words_behind}
use Rattle.bsp_model.proofs.memory_ref.MemoryRef.to_one_piece.Goals as goal

pub returns : goal.returns
returns c =
    let memory = c.args.self.now in
    let words = c.as_mut_slice.result.now in
    let size = words_len _ _ _ _ c.self.view_is in
    let long : length words ≡ length memory = omega (arith, c.as_mut_slice.ensures.len, c.in_ok-words.ensures.len, size) in
    let all : c.read.result ≡ true = grind (arith, nat_tests, c.read.ensures.within, long) in
    let last : (with_items c.in_ok-words.words c.read.new.words).items ≡ memory =
    with_items_is c.in_ok-words.words c.read.new.words (c.read.auto.words ∙ c.as_mut_slice.ensures.len)
    ∙ OnTrue_at all c.read.ensures.read
    ∙ take_all (length words) memory (omega (arith, long)) in
    words_behind c.new.result.items (with_items c.in_ok-words.words c.read.new.words).items memory c.self.inside.len c.new.ensures.items size last
