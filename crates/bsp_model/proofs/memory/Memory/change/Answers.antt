use Rattle.std.proofs.Common.{◌≡◌, ◌+◌, ◌-◌, ◌%◌, ◌++◌, List, ℕ, length, take, drop, ap, sym, refl, ◌∙◌, arith}
use Rattle.std.specs.Vec.{with_items}
use Rattle.std.proofs.lemmas.List.{with_items_is}
use Rattle.bsp_model.proofs.Pages.{words_len}
use Rattle.bsp_model.proofs.Changes.{seen_behind, changed_behind, seen_in_page, changed_page}
use Rattle.bsp_model.proofs.memory.Memory.change.Goals as goal

pub change_in_place-requires : goal.change_in_place-requires
change_in_place-requires g c =
    let count = c.self.invariant.count in
    let e = words_len _ _ _ _ c.self.view_is in
    omega (arith, count, e, c.requires, c.len.ensures, c.as_mut_slice.ensures.len)

seen : (g : _) (c : goal.After-self-1 g) → take c.args.len (drop (c.args.start - (c.self.inside.len - c.len.result)) c.as_mut_slice.result.now) ≡ take c.args.len (drop c.args.start c.args.self.now)
seen g c =
    let count = c.self.invariant.count in
    let place = c.args.start - (c.self.inside.len - c.len.result) in
    ap (λ (ws : List ℕ). take c.args.len (drop place ws)) c.as_mut_slice.ensures.value
    ∙ seen_behind c.self.inside.pages.items c.self.inside.last.items c.args.self.now c.self.inside.len c.args.start place c.args.len c.self.view_is c.self.invariant (omega (arith, count, c.len.ensures, c.if-start-full.true))

counted : (g : _) (c : goal.After-self-1 g) → length (g.C.Change.makes c.args.change.now (take c.args.len (drop c.args.start c.args.self.now))) ≡ c.args.len
counted g c = ap (λ (ws : List ℕ). length (g.C.Change.makes c.args.change.now ws)) (sym (seen g c)) ∙ c.change_in_place.ensures.count

pub returns-then-start-full-clause-made : goal.returns-then-start-full-clause-made
returns-then-start-full-clause-made g c made =
    let last = c.self.inside.last.items in
    let place = c.args.start - (c.self.inside.len - c.len.result) in
    let count = c.self.invariant.count in
    let words = g.C.Change.makes c.args.change.now (take c.args.len (drop c.args.start c.args.self.now)) in
    let many : length words ≡ c.args.len = counted g c in
    let items : (with_items c.self.inside.last c.change_in_place.new.words).items ≡ c.change_in_place.new.words =
    with_items_is c.self.inside.last c.change_in_place.new.words (c.change_in_place.auto.words ∙ c.as_mut_slice.ensures.len) in
    let new : c.change_in_place.new.words ≡ take place last ++ words ++ drop (place + length words) last =
    c.change_in_place.ensures.made
    ∙ (λ i. take place (c.as_mut_slice.ensures.value i) ++ g.C.Change.makes c.args.change.now (seen g c i) ++ drop (place + c.args.len) (c.as_mut_slice.ensures.value i))
    ∙ ap (λ (n : ℕ). take place last ++ words ++ drop (place + n) last) (sym many) in
    rw items
    (changed_behind c.self.inside.pages.items last c.change_in_place.new.words c.args.self.now words c.self.inside.len c.args.start place c.self.view_is c.self.invariant
    (omega (arith, count, c.len.ensures, c.if-start-full.true)) (omega (arith, many, c.requires, words_len _ _ _ _ c.self.view_is)) new)

pub returns-then-start-full-clause-count : goal.returns-then-start-full-clause-count
returns-then-start-full-clause-count g c made = counted g c

seen_there : (g : _) (c : goal.In_ok-change g) → take c.args.len (drop (c.args.start % 64) c.index_mut-page.result.now) ≡ take c.args.len (drop c.args.start c.args.self.now)
seen_there g c =
    let count = c.self.invariant.count in
    seen_in_page c.self.inside.pages.items c.index_mut-page.result.now c.self.inside.last.items c.args.self.now c.self.inside.len c.args.start c.args.len c.self.view_is c.self.invariant
    (omega (arith, count, c.len.ensures, c.if-start-full.false)) c.index_mut-page.ensures.value c.in_ok-change.ensures.len (omega (arith, c.if-len-place.false))

counted_there : (g : _) (c : goal.In_ok-change g) → length (g.C.Change.makes c.args.change.now (take c.args.len (drop c.args.start c.args.self.now))) ≡ c.args.len
counted_there g c = ap (λ (ws : List ℕ). length (g.C.Change.makes c.args.change.now ws)) (sym (seen_there g c)) ∙ c.in_ok-change.ensures.count

pub returns-clause-made : goal.returns-clause-made
returns-clause-made g c made =
    let page = c.index_mut-page.result.now in
    let count = c.self.invariant.count in
    let words = g.C.Change.makes c.args.change.now (take c.args.len (drop c.args.start c.args.self.now)) in
    let many : length words ≡ c.args.len = counted_there g c in
    let new : c.change.new.self ≡ take (c.args.start % 64) page ++ words ++ drop (c.args.start % 64 + length words) page =
    c.in_ok-change.ensures.ok
    ∙ ap (λ (ws : List ℕ). take (c.args.start % 64) page ++ g.C.Change.makes c.args.change.now ws ++ drop (c.args.start % 64 + c.args.len) page) (seen_there g c)
    ∙ ap (λ (n : ℕ). take (c.args.start % 64) page ++ words ++ drop (c.args.start % 64 + n) page) (sym many) in
    changed_page c.self.inside.pages.items _ page c.change.new.self c.self.inside.last.items c.args.self.now words c.self.inside.len c.args.start c.self.view_is c.self.invariant
    (omega (arith, count, c.len.ensures, c.if-start-full.false)) c.index_mut-page.ensures.value c.in_ok-change.ensures.len (omega (arith, many, c.if-len-place.false)) new refl

pub returns-clause-count : goal.returns-clause-count
returns-clause-count g c made = counted_there g c
