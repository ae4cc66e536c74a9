use Rattle.std.proofs.Common.{◌≡◌, ◌+◌, ◌-◌, ◌∷◌, [], ◌++◌, ℕ, List, length, get_or, ap, ◌∙◌, refl, arith}
use Rattle.std.specs.Prelude.{slice_set}
use Rattle.std.proofs.lemmas.List.{nil_from_length, set-get_or}
use Rattle.bsp_model.specs.declared.range.Range.{Range}
use Rattle.bsp_model.specs.Inside.Ranges.{longer}
use Rattle.bsp_model.proofs.Ranges.{last_len-is, longer-on, longer-apart}
use Rattle.bsp_model.proofs.range.add_words.Goals as goal
use Rattle.bsp_model.proofs.range.add_words.Goals.{then-count-gt0+else-start-last, else-start-last-via-then-start-last+else-start-last-2, else-start-last-via-else-start-last, else-count-gt0}

pub overflow_add-last : goal.overflow_add-last
overflow_add-last c =
    let last = last_len-is c.args.ranges.now.items (c.len-count.result - 1) c.index_mut-last.result.now (omega (arith, c.args.ranges.now.ok.0)) in
    omega (arith, last, ap (λ (r : Range). r.len) c.index_mut-last.ensures.value)

pub returns-then-start-last-2 : goal.returns-then-start-last-2
returns-then-start-last-2 c =
    let items = c.args.ranges.now.items in
    let last = c.index_mut-last.result.now in
    let i = c.len-count.result - 1 in
    ap (λ (r : Range). slice_set items i record { start = r.start; len = r.len + c.args.len }) c.index_mut-last.ensures.value
    ∙ longer-on items i last c.args.start c.args.len (omega (arith, c.args.ranges.now.ok.0)) (omega (arith, ap (λ (r : Range). r.len) c.index_mut-last.ensures.value, ap (λ (r : Range). r.start) c.index_mut-last.ensures.value))

-- a range of its own, where there is none yet
first_range : (items : List Range) (start len : ℕ) → length items ≡ 0 → items ++ record { start = start; len = len } ∷ [] ≡ longer items start len
first_range items start len none = rw (nil_from_length items none) refl

pub returns : goal.returns
returns c =
    let items = c.args.ranges.now.items in
    let start = c.args.start in
    let len = c.args.len in
    let more : List Range = record { start = start; len = len } ∷ [] in
    c.push_reserved.ensures.items
    ∙ elim c.if-count-gt0.branch as (λ _. c.if-count-gt0.ranges.items ++ more ≡ longer items start len) [
      | then-count-gt0+else-start-last w ↦
          let i = c.len-count.result - 1 in
          let last = w.index_mut-last.result.now in
          let long : length items ≡ i + 1 = omega (arith, c.args.ranges.now.ok.0, w.if-count-gt0.true) in
          let value : last ≡ get_or items i last = w.index_mut-last.ensures.value in
          let first : last.start ≡ (get_or items i last).start = ap (λ (r : Range). r.start) value in
          let count : last.len ≡ (get_or items i last).len = ap (λ (r : Range). r.len) value in
          let unchanged : slice_set items i last ≡ items = ap (slice_set items i) value ∙ set-get_or items i last in
          ap (λ (v : _). v.items ++ more) w.ranges-is
          ∙ elim w.else-start-last.branch as (λ _. w.else-start-last.ranges.items ++ more ≡ longer items start len) [
            | else-start-last-via-then-start-last+else-start-last-2 w' ↦
                ap (λ (v : _). v.items ++ more) w'.ranges-is ∙ ap (λ (rs : List Range). rs ++ more) unchanged
                ∙ longer-apart items i last start len long (λ on. absurd (omega (arith, on, first, count, w'.if-start-last-2.false)))
            | else-start-last-via-else-start-last w' ↦
                ap (λ (v : _). v.items ++ more) w'.ranges-is ∙ ap (λ (rs : List Range). rs ++ more) unchanged
                ∙ longer-apart items i last start len long (λ on. absurd (omega (arith, on, first, w'.if-start-last.false)))
          ]
      | else-count-gt0 w ↦ ap (λ (v : _). v.items ++ more) w.ranges-is ∙ first_range items start len (omega (arith, c.args.ranges.now.ok.0, w.if-count-gt0.false))
    ]
