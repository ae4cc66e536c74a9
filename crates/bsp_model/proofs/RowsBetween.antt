-- The rows between two places of a list of rows.
use Rattle.std.proofs.Common.{◌≡◌, ◌≤◌, ◌<◌, ℕ, zero, suc, ◌+◌, ◌-◌, List, [], ◌∷◌, ◌++◌, length, get_or, take, drop, map, refl, sym, ap, ◌∙◌, arith, rules}
use Rattle.std.specs.Prelude.{slice_range}
use Rattle.std.proofs.Math.Seq.{drop-cons}
use Rattle.std.proofs.lemmas.List.{same_lists, places, get_or-drop}
use Rattle.bsp_model.specs.Inside.Rows.{rows_of, AreEnds}
use Rattle.bsp_model.proofs.RowsOf.{start-within, rows_of-append, AreEnds-append}

-- where the row at a place begins, or the last one ends
abbrev pub start_at : ℕ → List ℕ → ℕ → ℕ
start_at start ends number = get_or (start ∷ ends) number 0

drop-starts : (start : ℕ) (ends : List ℕ) (from : ℕ) → from ≤ length ends → drop from (start ∷ ends) ≡ start_at start ends from ∷ drop from ends
drop-starts start ends from within = drop-cons (start ∷ ends) from 0 (omega arith)

start_at-behind : (start : ℕ) (ends : List ℕ) (from to : ℕ) → from ≤ to → from ≤ length ends → start_at (start_at start ends from) (drop from ends) (to - from) ≡ start_at start ends to
start_at-behind start ends from to order within =
    let at : from + (to - from) ≡ to = omega arith in
    ap (λ (es : List ℕ). get_or es (to - from) 0) (sym (drop-starts start ends from within))
    ∙ get_or-drop from (start ∷ ends) (to - from) 0
    ∙ ap (start_at start ends) at

-- the rows from a place on

drop-rows_of : {X : Type 0} (start : ℕ) (items : List X) (ends : List ℕ) (from : ℕ) → from ≤ length ends → drop from (rows_of start items ends) ≡ rows_of (start_at start ends from) items (drop from ends)
drop-rows_of start items ends zero within = refl
drop-rows_of start items [] (suc from) within = absurd (omega arith)
drop-rows_of start items (end ∷ ends) (suc from) within = drop-rows_of end items ends from (omega arith)

AreEnds-drop : (start : ℕ) (ends : List ℕ) (count from : ℕ) → AreEnds start ends count → from ≤ length ends → AreEnds (start_at start ends from) (drop from ends) count
AreEnds-drop start ends count zero are within = are
AreEnds-drop start [] count (suc from) are within = absurd (omega arith)
AreEnds-drop start (end ∷ ends) count (suc from) are within = AreEnds-drop end ends count from are.1 (omega arith)

-- the rows before a place

pub take-rows_of : {X : Type 0} (start : ℕ) (items : List X) (ends : List ℕ) (n : ℕ) → take n (rows_of start items ends) ≡ rows_of start items (take n ends)
take-rows_of start items ends zero = refl
take-rows_of start items [] (suc n) = refl
take-rows_of start items (end ∷ ends) (suc n) = ap (λ rows. slice_range items start end ∷ rows) (take-rows_of end items ends n)

pub AreEnds-take : (start : ℕ) (ends : List ℕ) (count n : ℕ) → AreEnds start ends count → n ≤ length ends → AreEnds start (take n ends) (start_at start ends n)
AreEnds-take start ends count zero are within = refl
AreEnds-take start [] count (suc n) are within = absurd (omega arith)
AreEnds-take start (end ∷ ends) count (suc n) are within = (are.0, AreEnds-take end ends count n are.1 (omega arith))

pub AreEnds-between : (ends : List ℕ) (count from to : ℕ) → AreEnds 0 ends count → from ≤ to → to ≤ length ends → AreEnds (start_at 0 ends from) (slice_range ends from to) (start_at 0 ends to)
AreEnds-between ends count from to are order within =
    let few : to - from ≤ length (drop from ends) = grind (arith, places) in
    rw (← start_at-behind 0 ends from to order (omega arith))
    (AreEnds-take (start_at 0 ends from) (drop from ends) count (to - from) (AreEnds-drop 0 ends count from are (omega arith)) few)

pub start_at-below : (ends : List ℕ) (count from to : ℕ) → AreEnds 0 ends count → from ≤ to → to ≤ length ends → start_at 0 ends from ≤ start_at 0 ends to
start_at-below ends count from to are order within = start-within _ _ _ (AreEnds-between ends count from to are order within)

pub start_at-within : (ends : List ℕ) (count to : ℕ) → AreEnds 0 ends count → to ≤ length ends → start_at 0 ends to ≤ count
start_at-within ends count to are within = start-within _ _ _ (AreEnds-drop 0 ends count to are within)

pub start-under : (start : ℕ) (ends : List ℕ) (count i : ℕ) → AreEnds start ends count → i < length ends → start ≤ get_or ends i 0
start-under start [] count i are within = absurd (omega arith)
start-under start (end ∷ ends) count zero are within = are.0
start-under start (end ∷ ends) count (suc i) are within = omega (arith, are.0, start-under end ends count i are.1 (omega arith))

-- rows of a list that is cut on both sides

range-cut : {X : Type 0} (items : List X) (s i j e : ℕ) → s ≤ i → j ≤ e → slice_range items i j ≡ slice_range (slice_range items s e) (i - s) (j - s)
range-cut items s i j e low high = same_lists _ _ (search (rules, places)) (λ k d l. grind (arith, places))

rows_of-cut : {X : Type 0} (items : List X) (s e start : ℕ) (ends : List ℕ) → s ≤ start → AreEnds start ends e → rows_of start items ends ≡ rows_of (start - s) (slice_range items s e) (map (λ end. end - s) ends)
rows_of-cut items s e start [] low are = refl
rows_of-cut items s e start (end ∷ ends) low are =
    ap (λ row. row ∷ rows_of end items ends) (range-cut items s start end e low (start-within end ends e are.1))
    ∙ ap (λ rows. slice_range (slice_range items s e) (start - s) (end - s) ∷ rows) (rows_of-cut items s e end ends (omega (arith, low, are.0)) are.1)

AreEnds-cut : (s e start : ℕ) (ends : List ℕ) → s ≤ start → AreEnds start ends e → AreEnds (start - s) (map (λ end. end - s) ends) (e - s)
AreEnds-cut s e start [] low are = ap (λ (n : ℕ). n - s) are
AreEnds-cut s e start (end ∷ ends) low are = (omega (arith, are.0), AreEnds-cut s e end ends (omega (arith, low, are.0)) are.1)

-- the rows between two places, put behind others

both : (before s : ℕ) (ends : List ℕ) → map (λ end. before + (end - s)) ends ≡ map (λ end. before + end) (map (λ end. end - s) ends)
both before s [] = refl
both before s (end ∷ ends) = ap (λ (es : List ℕ). (before + (end - s)) ∷ es) (both before s ends)

pub rows_of-more : {X : Type 0} (items more : List X) (ends others : List ℕ) (from to : ℕ) → AreEnds 0 ends (length items) → AreEnds 0 others (length more) → from ≤ to → to ≤ length others
    → rows_of 0 (items ++ slice_range more (start_at 0 others from) (start_at 0 others to)) (ends ++ map (λ end. length items + (end - start_at 0 others from)) (slice_range others from to))
    ≡ rows_of 0 items ends ++ slice_range (rows_of 0 more others) from to
rows_of-more items more ends others from to are other order within =
    let s = start_at 0 others from in
    let e = start_at 0 others to in
    let between = slice_range others from to in
    let none : s - s ≡ 0 = omega arith in
    let low : s ≤ s = omega arith in
    let there : slice_range (rows_of 0 more others) from to ≡ rows_of 0 (slice_range more s e) (map (λ end. end - s) between) =
    ap (take (to - from)) (drop-rows_of 0 more others from (omega arith))
    ∙ take-rows_of s more (drop from others) (to - from)
    ∙ rows_of-cut more s e s between low (AreEnds-between others (length more) from to other order within)
    ∙ ap (λ (n : ℕ). rows_of n (slice_range more s e) (map (λ end. end - s) between)) none in
    ap (λ (es : List ℕ). rows_of 0 (items ++ slice_range more s e) (ends ++ es)) (both (length items) s between)
    ∙ rows_of-append 0 items (slice_range more s e) ends (map (λ end. end - s) between) are
    ∙ ap (λ rows. rows_of 0 items ends ++ rows) (sym there)

pub AreEnds-more : (ends others : List ℕ) (before count from to : ℕ) → AreEnds 0 ends before → AreEnds 0 others count → from ≤ to → to ≤ length others
    → AreEnds 0 (ends ++ map (λ end. before + (end - start_at 0 others from)) (slice_range others from to)) (before + (start_at 0 others to - start_at 0 others from))
AreEnds-more ends others before count from to are other order within =
    let s = start_at 0 others from in
    let e = start_at 0 others to in
    let between = slice_range others from to in
    let none : s - s ≡ 0 = omega arith in
    let low : s ≤ s = omega arith in
    let cut : AreEnds (s - s) (map (λ end. end - s) between) (e - s) = AreEnds-cut s e s between low (AreEnds-between others count from to other order within) in
    rw (both before s between) (AreEnds-append 0 ends (map (λ end. end - s) between) before (e - s) are (rw none at cut))
