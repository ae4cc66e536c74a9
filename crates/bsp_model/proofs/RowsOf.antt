-- Rows that lie one behind the other in one list.
use Rattle.std.proofs.Common.{◌≡◌, ◌≤◌, ◌<◌, ℕ, zero, suc, ◌+◌, ◌-◌, List, [], ◌∷◌, ◌++◌, length, get_or, take, drop, map, refl, sym, ap, ◌∙◌, arith, rules, add-zero}
use Rattle.std.specs.Prelude.{slice_range}
use Rattle.std.proofs.Math.Seq.{drop-append-add}
use Rattle.std.proofs.lemmas.List.{same_lists, places, take_all}
use Rattle.bsp_model.specs.Inside.Rows.{rows_of, AreEnds}

pub length-rows_of : {X : Type 0} (start : ℕ) (items : List X) (ends : List ℕ) → length (rows_of start items ends) ≡ length ends
length-rows_of start items [] = refl
length-rows_of start items (end ∷ ends) = ap suc (length-rows_of end items ends)

-- a row lies between two ends
pub get_or-rows_of : {X : Type 0} (start : ℕ) (items : List X) (ends : List ℕ) (i : ℕ) → i < length ends → get_or (rows_of start items ends) i [] ≡ slice_range items (get_or (start ∷ ends) i 0) (get_or ends i 0)
get_or-rows_of start items [] i within = absurd (omega arith)
get_or-rows_of start items (end ∷ ends) zero within = refl
get_or-rows_of start items (end ∷ ends) (suc i) within = get_or-rows_of end items ends i (omega arith)

-- the order of ends

pub start-within : (start : ℕ) (ends : List ℕ) (count : ℕ) → AreEnds start ends count → start ≤ count
start-within start [] count are = omega (arith, are)
start-within start (end ∷ ends) count are = omega (arith, are.0, start-within end ends count are.1)

pub end-within : (start : ℕ) (ends : List ℕ) (count i : ℕ) → AreEnds start ends count → i < length ends → get_or ends i 0 ≤ count
end-within start [] count i are within = absurd (omega arith)
end-within start (end ∷ ends) count zero are within = start-within end ends count are.1
end-within start (end ∷ ends) count (suc i) are within = end-within end ends count i are.1 (omega arith)

-- more rows behind

pub range-before : {X : Type 0} (items more : List X) (i j : ℕ) → j ≤ length items → slice_range (items ++ more) i j ≡ slice_range items i j
range-before items more i j within = same_lists _ _ (search (rules, places)) (λ k d l. grind (arith, places))

pub range-behind : {X : Type 0} (items more : List X) (i j : ℕ) → slice_range (items ++ more) (length items + i) (length items + j) ≡ slice_range more i j
range-behind items more i j =
    let long : (length items + j) - (length items + i) ≡ j - i = omega arith in
    ap (λ (n : ℕ). take n (drop (length items + i) (items ++ more))) long ∙ ap (take (j - i)) (drop-append-add items more i)

rows_of-behind : {X : Type 0} (start : ℕ) (items more : List X) (ends : List ℕ) → rows_of (length items + start) (items ++ more) (map (λ end. length items + end) ends) ≡ rows_of start more ends
rows_of-behind start items more [] = refl
rows_of-behind start items more (end ∷ ends) =
    ap (λ row. row ∷ rows_of (length items + end) (items ++ more) (map (λ e. length items + e) ends)) (range-behind items more start end)
    ∙ ap (λ rows. slice_range more start end ∷ rows) (rows_of-behind end items more ends)

pub rows_of-append : {X : Type 0} (start : ℕ) (items more : List X) (ends others : List ℕ) → AreEnds start ends (length items)
    → rows_of start (items ++ more) (ends ++ map (λ end. length items + end) others) ≡ rows_of start items ends ++ rows_of 0 more others
rows_of-append start items more [] others are =
    ap (λ (k : ℕ). rows_of k (items ++ more) (map (λ end. length items + end) others)) (are ∙ sym (add-zero (length items))) ∙ rows_of-behind 0 items more others
rows_of-append start items more (end ∷ ends) others are =
    ap (λ row. row ∷ rows_of end (items ++ more) (ends ++ map (λ e. length items + e) others)) (range-before items more start end (start-within end ends _ are.1))
    ∙ ap (λ rows. slice_range items start end ∷ rows) (rows_of-append end items more ends others are.1)

AreEnds-behind : (start : ℕ) (ends : List ℕ) (before count : ℕ) → AreEnds start ends count → AreEnds (before + start) (map (λ end. before + end) ends) (before + count)
AreEnds-behind start [] before count are = ap (λ (k : ℕ). before + k) are
AreEnds-behind start (end ∷ ends) before count are = (omega (arith, are.0), AreEnds-behind end ends before count are.1)

pub AreEnds-append : (start : ℕ) (ends others : List ℕ) (before count : ℕ) → AreEnds start ends before → AreEnds 0 others count → AreEnds start (ends ++ map (λ end. before + end) others) (before + count)
AreEnds-append start [] others before count are more =
    let from : before + 0 ≡ start = omega (arith, are) in rw (← from) (AreEnds-behind 0 others before count more)
AreEnds-append start (end ∷ ends) others before count are more = (are.0, AreEnds-append end ends others before count are.1 more)

-- a row more

pub rows_of-push : {X : Type 0} (items row : List X) (ends : List ℕ) → AreEnds 0 ends (length items) → rows_of 0 (items ++ row) (ends ++ (length items + length row) ∷ []) ≡ rows_of 0 items ends ++ row ∷ []
rows_of-push items row ends are =
    rows_of-append 0 items row ends (length row ∷ []) are ∙ ap (λ r. rows_of 0 items ends ++ r ∷ []) (take_all (length row - 0) row (omega arith))

pub AreEnds-push : (ends : List ℕ) (before count : ℕ) → AreEnds 0 ends before → AreEnds 0 (ends ++ (before + count) ∷ []) (before + count)
AreEnds-push ends before count are = AreEnds-append 0 ends (count ∷ []) before count are (omega arith, refl)
