use Rattle.std.proofs.Common.{◌≡◌, ◌<◌, ◌+◌, List, ℕ, length, ◌∙◌, ap, arith}
use Rattle.std.specs.Vec.{with_items}
use Rattle.std.proofs.lemmas.List.{with_items_is}
use Rattle.std.proofs.lemmas.Bool.Decides.{nat_tests}
use Rattle.bsp_model.specs.Inside.Pages.{paged_word, word_after}
use Rattle.bsp_model.proofs.Pages.{words_len}
use Rattle.bsp_model.proofs.Writes.{cut_written, not_written}
use Rattle.bsp_model.proofs.memory.Memory.write_paged.Goals as goal

pub returns-in_default-clause-within : goal.returns-in_default-clause-within
returns-in_default-clause-within c =
    let past : length c.args.self.now < c.args.start + length c.args.words.now = omega (arith, words_len _ _ _ _ c.self.view_is, c.in_default.ensures) in
    grind (arith, nat_tests, past)

pub returns-in_default-clause-written : goal.returns-in_default-clause-written
returns-in_default-clause-written c = not_written _ _ _ _ _ _ c.self.view_is c.in_default.ensures

pub returns-clause-within : goal.returns-clause-within
returns-clause-within c =
    let e = words_len _ _ _ _ c.self.view_is in
    let inside = c.in-Some.ensures.inside in
    grind (arith, nat_tests, e, inside)

pub returns-clause-written : goal.returns-clause-written
returns-clause-written c =
    let full = c.self.inside.pages.items in
    let last = c.self.inside.last.items in
    let cut = c.in-Some.cut in
    let pages : (with_items c.self.inside.pages c.write_pages.new.pages).items ≡ c.write_pages.new.pages =
    with_items_is c.self.inside.pages c.write_pages.new.pages (c.in_ok-write_pages.ensures.count ∙ c.as_mut_slice.ensures.len) in
    let words : (with_items c.self.inside.last c.replace_items.new.items).items ≡ c.replace_items.new.items =
    with_items_is c.self.inside.last c.replace_items.new.items (c.replace_items.auto.items ∙ c.as_mut_slice-2.ensures.len) in
    let length_last = c.self.inside.last.ok.0 in
    let all = c.self.invariant.count in
    rw (pages, words)
    (cut_written full c.write_pages.new.pages last c.replace_items.new.items c.args.words.now c.args.self.now c.self.inside.len _ c.args.start cut c.self.view_is c.self.invariant (omega arith) c.in-Some.ensures
    (c.in_ok-write_pages.ensures.count ∙ ap length c.as_mut_slice.ensures.value)
    (λ i. c.in_ok-write_pages.ensures.ok i ∙ ap (λ (ps : List (List ℕ)). word_after (paged_word ps) cut.start cut.front.now i) c.as_mut_slice.ensures.value)
    (rw c.as_mut_slice-2.ensures.value at c.replace_items.ensures))
