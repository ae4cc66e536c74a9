use Rattle.std.proofs.Common.{◌≡◌, ◌<◌, ◌≤◌, ◌+◌, length, nat_le, ap, sym, ◌∙◌, arith}
use Rattle.std.proofs.lemmas.List.{with_items_is}
use Rattle.std.proofs.lemmas.Bool.Decides.{nat_tests}
use Rattle.std.specs.Vec.{with_items}
use Rattle.bsp_model.proofs.Pages.{words_len}
use Rattle.bsp_model.proofs.Writes.{not_written, last_written}
use Rattle.bsp_model.proofs.memory.Memory.write.Goals as goal

pub returns-then-not-is_within-clause-within : goal.returns-then-not-is_within-clause-within
returns-then-not-is_within-clause-within c =
    sym c.if-not-is_within.true ∙ c.is_within.ensures ∙ ap (nat_le (c.args.start + length c.args.words.now)) (words_len _ _ _ _ c.self.view_is)

pub returns-then-not-is_within-clause-written : goal.returns-then-not-is_within-clause-written
returns-then-not-is_within-clause-written c =
    let over : c.self.inside.len < c.args.start + length c.args.words.now = grind (arith, nat_tests, c.is_within.ensures, c.if-not-is_within.true) in
    not_written _ _ _ _ _ _ c.self.view_is over

pub returns-clause-within : goal.returns-clause-within
returns-clause-within c =
    sym c.if-not-is_within.false ∙ c.is_within.ensures ∙ ap (nat_le (c.args.start + length c.args.words.now)) (words_len _ _ _ _ c.self.view_is)

pub returns-clause-written : goal.returns-clause-written
returns-clause-written c =
    let last = c.self.inside.last.items in
    let words : (with_items c.self.inside.last c.replace_items.new.items).items ≡ c.replace_items.new.items =
    with_items_is c.self.inside.last c.replace_items.new.items (c.replace_items.auto.items ∙ c.as_mut_slice.ensures.len) in
    let none : length c.self.inside.pages.items ≡ 0 = grind (arith, nat_tests, c.is_empty.ensures, c.if-not-is_empty.false, c.self.inside.pages.ok) in
    let inside : c.args.start + length c.args.words.now ≤ c.self.inside.len = grind (arith, nat_tests, c.is_within.ensures, c.if-not-is_within.false) in
    rw words
    (last_written c.self.inside.pages.items last c.replace_items.new.items c.args.words.now c.args.self.now c.self.inside.len c.args.start c.self.view_is c.self.invariant none inside
    (rw c.as_mut_slice.ensures.value at c.replace_items.ensures))
