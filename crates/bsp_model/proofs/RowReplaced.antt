-- A part of one row is replaced.
use Rattle.std.proofs.Common.{◌≡◌, ◌≤◌, ◌<◌, ℕ, zero, suc, ◌+◌, ◌-◌, List, [], ◌∷◌, ◌++◌, length, get_or, take, drop, set, refl, sym, ap, ◌∙◌, arith, rules}
use Rattle.std.specs.Prelude.{slice_range}
use Rattle.std.proofs.lemmas.List.{same_lists, places, length-append, length-take, length-drop}
use Rattle.std.proofs.lemmas.List.Edits.{length-between}
use Rattle.bsp_model.specs.Inside.Rows.{rows_of, AreEnds}
use Rattle.bsp_model.proofs.RowsOf.{start-within, end-within, length-rows_of, get_or-rows_of}
use Rattle.bsp_model.proofs.RowsBetween.{start_at-below}

-- the items, with new ones from a place on
abbrev pub with_part : {X : Type 0} → List X → ℕ → List X → List X
with_part items place new = take place items ++ new ++ drop (place + length new) items

pub length-with_part : {X : Type 0} (items new : List X) (place : ℕ) → place + length new ≤ length items → length (with_part items place new) ≡ length items
length-with_part items new place within =
    omega (arith, length-append (take place items ++ new) (drop (place + length new) items), length-append (take place items) new, length-take place items, length-drop (place + length new) items)

range-in-front : {X : Type 0} (items new : List X) (place i j : ℕ) → place + length new ≤ length items → j ≤ place → slice_range (with_part items place new) i j ≡ slice_range items i j
range-in-front items new place i j within before = same_lists _ _ (search (rules, places)) (λ k d l. grind (arith, places))

range-behind : {X : Type 0} (items new : List X) (place i j : ℕ) → place + length new ≤ length items → place + length new ≤ i → slice_range (with_part items place new) i j ≡ slice_range items i j
range-behind items new place i j within behind = same_lists _ _ (search (rules, places)) (λ k d l. grind (arith, places))

range-with_part : {X : Type 0} (items new : List X) (place i j : ℕ) → i + place + length new ≤ j → j ≤ length items → slice_range (with_part items (i + place) new) i j ≡ with_part (slice_range items i j) place new
range-with_part items new place i j inside within = same_lists _ _ (search (rules, places)) (λ k d l. grind (arith, places))

rows_of-behind : {X : Type 0} (start : ℕ) (items new : List X) (ends : List ℕ) (place : ℕ) → AreEnds start ends (length items) → place + length new ≤ start → rows_of start (with_part items place new) ends ≡ rows_of start items ends
rows_of-behind start items new [] place are behind = refl
rows_of-behind start items new (end ∷ ends) place are behind =
    ap (λ row. row ∷ rows_of end (with_part items place new) ends) (range-behind items new place start end (omega (arith, start-within end ends _ are.1, are.0)) behind)
    ∙ ap (λ rows. slice_range items start end ∷ rows) (rows_of-behind end items new ends place are.1 (omega (arith, are.0)))

start_below : (start : ℕ) (ends : List ℕ) (count i : ℕ) → AreEnds start ends count → i < length ends → start ≤ get_or (start ∷ ends) i 0
start_below start ends count zero are within = omega arith
start_below start [] count (suc i) are within = absurd (omega arith)
start_below start (end ∷ ends) count (suc i) are within = omega (arith, are.0, start_below end ends count i are.1 (omega arith))

pub rows_of-replaced : {X : Type 0} (start : ℕ) (items new : List X) (ends : List ℕ) (i place : ℕ) → AreEnds start ends (length items) → i < length ends → get_or (start ∷ ends) i 0 + place + length new ≤ get_or ends i 0
    → rows_of start (with_part items (get_or (start ∷ ends) i 0 + place) new) ends ≡ set (rows_of start items ends) i (with_part (get_or (rows_of start items ends) i []) place new)
rows_of-replaced start items new [] i place are within inside = absurd (omega arith)
rows_of-replaced start items new (end ∷ ends) zero place are within inside =
    ap (λ row. row ∷ rows_of end (with_part items (start + place) new) ends) (range-with_part items new place start end inside (start-within end ends _ are.1))
    ∙ ap (λ rows. with_part (slice_range items start end) place new ∷ rows) (rows_of-behind end items new ends (start + place) are.1 inside)
rows_of-replaced start items new (end ∷ ends) (suc i) place are within inside =
    let at = get_or (end ∷ ends) i 0 + place in
    let low : end ≤ at = omega (arith, start_below end ends _ i are.1 (omega arith)) in
    let end_inside = end-within end ends _ i are.1 (omega arith) in
    let high : at + length new ≤ length items = omega arith in
    ap (λ row. row ∷ rows_of end (with_part items at new) ends) (range-in-front items new at start end high low)
    ∙ ap (λ rows. slice_range items start end ∷ rows) (rows_of-replaced end items new ends i place are.1 (omega arith) inside)

-- a part within a row lies within the items
pub row_fits : {X : Type 0} (items : List X) (rows : List (List X)) (ends : List ℕ) (i place count : ℕ) → AreEnds 0 ends (length items) → rows_of 0 items ends ≡ rows → i < length rows → place + count ≤ length (get_or rows i [])
    → (i < length ends) × (get_or (0 ∷ ends) i 0 + place + count ≤ get_or ends i 0) × (get_or ends i 0 ≤ length items)
row_fits {X = X} items rows ends i place count are is within inside =
    let there : i < length ends = omega (arith, length-rows_of 0 items ends, ap length is) in
    let end = get_or ends i 0 in
    let start = get_or (0 ∷ ends) i 0 in
    let last = end-within 0 ends _ i are there in
    let long : length (get_or rows i []) ≡ end - start =
    ap (λ (rs : List (List X)). length (get_or rs i [])) (sym is) ∙ ap length (get_or-rows_of 0 items ends i there) ∙ length-between items start end last in
    let order : start ≤ end = start_at-below ends (length items) i (suc i) are (omega arith) there in
    (there, omega arith, last)

pub row_replaced : {X : Type 0} (items all new : List X) (rows : List (List X)) (ends : List ℕ) (i start place : ℕ) → AreEnds 0 ends (length items) → rows_of 0 items ends ≡ rows → i < length rows → place + length new ≤ length (get_or rows i [])
    → start ≡ get_or (0 ∷ ends) i 0 → all ≡ with_part items (start + place) new → rows_of 0 all ends ≡ set rows i (with_part (get_or rows i []) place new)
row_replaced {X = X} items all new rows ends i start place are is within inside start_is all_is =
    let fits = row_fits items rows ends i place (length new) are is within inside in
    ap (λ (xs : List X). rows_of 0 xs ends) (all_is ∙ ap (λ n. with_part items (n + place) new) start_is)
    ∙ rows_of-replaced 0 items new ends i place are fits.0 fits.1
    ∙ ap (λ (rs : List (List X)). set rs i (with_part (get_or rs i []) place new)) is
