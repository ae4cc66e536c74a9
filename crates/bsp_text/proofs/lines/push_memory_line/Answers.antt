use Rattle.std.proofs.Common.{◌≡◌, ◌++◌, ◌∙◌, OnOk, ap, arith, drop, length, length-drop, length-take, List, ℕ, refl, subst, take}
use Rattle.std.specs.Prelude.{codes}
use Rattle.std.proofs.lemmas.List.{take_all}
use Rattle.bsp_text.specs.Lines.{line}
use Rattle.bsp_text.proofs.Numbering.{fields_grow, part_whole}
use Rattle.bsp_text.proofs.lines.push_memory_line.Goals as goal

pub loop-address-preserved : goal.loop-address-preserved
loop-address-preserved c =
    let memory = c.args.memory.now in
    let address = c.loop-address.address in
    let page = c.words_from-page.result.now in
    let whole = part_whole memory page address _ c.words_from-page.ensures in
    record {
      within = omega (arith, c.loop-address.invariant.within, ap (λ (p : List ℕ). length p) whole, length-take (length page) (drop address memory), length-drop address memory);
      text = fields_grow memory page address (length page) _ _ _ whole c.loop-address.invariant.text c.in_ok-push_fields-2.ensures;
    }

-- a memory of which all words lie together
pub returns-then-words-len : goal.returns-then-words-len
returns-then-words-len c =
    let memory = c.args.memory.now in
    let words = c.words_from-words.result.now in
    let whole : words ≡ memory = part_whole memory words 0 64 c.words_from-words.ensures ∙ take_all (length words) memory (omega (arith, c.if-words-len.true, c.len.ensures)) in
    subst (λ (ws : List ℕ). OnOk c.push_parts.result (c.push_parts.new.text.items ≡ c.args.text.now.items ++ line (codes "memory") (c.args.numbers.now ++ ws))) whole c.push_parts.ensures
