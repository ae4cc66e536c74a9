-- The first rows of a list of rows, and empty rows behind all.
use Rattle.std.proofs.Common.{◌≡◌, ◌≤◌, ℕ, zero, suc, ◌+◌, List, [], ◌∷◌, ◌++◌, length, take, refl, sym, ap, ◌∙◌, arith, rules, add-zero}
use Rattle.std.specs.Prelude.{slice_range}
use Rattle.std.proofs.lemmas.List.{same_lists, places, append-nil, length-take-le}
use Rattle.bsp_model.specs.Columns.{row_at}
use Rattle.bsp_model.specs.Inside.Rows.{rows_of, AreEnds}
use Rattle.bsp_model.proofs.RowsOf.{start-within, rows_of-push, AreEnds-push}
use Rattle.bsp_model.proofs.RowsBetween.{start_at, start_at-within, take-rows_of, AreEnds-take}

-- the first rows

range-take : {X : Type 0} (items : List X) (i j n : ℕ) → j ≤ n → slice_range (take n items) i j ≡ slice_range items i j
range-take items i j n within = same_lists _ _ (search (rules, places)) (λ k d l. grind (arith, places))

rows_of-take : {X : Type 0} (start : ℕ) (items : List X) (ends : List ℕ) (n : ℕ) → AreEnds start ends n → rows_of start (take n items) ends ≡ rows_of start items ends
rows_of-take start items [] n are = refl
rows_of-take start items (end ∷ ends) n are =
    ap (λ row. row ∷ rows_of end (take n items) ends) (range-take items start end n (start-within end ends n are.1))
    ∙ ap (λ rows. slice_range items start end ∷ rows) (rows_of-take end items ends n are.1)

pub rows_of-first : {X : Type 0} (items : List X) (ends : List ℕ) (n : ℕ) → AreEnds 0 ends (length items) → n ≤ length ends → rows_of 0 (take (start_at 0 ends n) items) (take n ends) ≡ take n (rows_of 0 items ends)
rows_of-first items ends n are within =
    rows_of-take 0 items (take n ends) (start_at 0 ends n) (AreEnds-take 0 ends (length items) n are within) ∙ sym (take-rows_of 0 items ends n)

pub AreEnds-first : {X : Type 0} (items : List X) (ends : List ℕ) (n : ℕ) → AreEnds 0 ends (length items) → n ≤ length ends → AreEnds 0 (take n ends) (length (take (start_at 0 ends n) items))
AreEnds-first items ends n are within =
    rw (length-take-le (start_at 0 ends n) items (start_at-within ends (length items) n are within)) (AreEnds-take 0 ends (length items) n are within)

-- an empty row more

pub rows_of-empty : {X : Type 0} (items : List X) (ends : List ℕ) → AreEnds 0 ends (length items) → rows_of 0 items (ends ++ length items ∷ []) ≡ rows_of 0 items ends ++ [] ∷ []
rows_of-empty items ends are =
    ap (λ (es : List ℕ). rows_of 0 items es) (ap (λ (n : ℕ). ends ++ n ∷ []) (sym (add-zero (length items))))
    ∙ ap (λ is. rows_of 0 is (ends ++ (length items + 0) ∷ [])) (sym (append-nil items))
    ∙ rows_of-push items [] ends are

pub AreEnds-empty : (ends : List ℕ) (count : ℕ) → AreEnds 0 ends count → AreEnds 0 (ends ++ count ∷ []) count
AreEnds-empty ends count are = let P : ℕ → Type 0 = λ n. AreEnds 0 (ends ++ n ∷ []) n in rw add-zero at (AreEnds-push ends count 0 are)

pub row_at-empty : {X : Type 0} (rows : List (List X)) (k : ℕ) → row_at (rows ++ [] ∷ []) k ≡ row_at rows k
row_at-empty [] zero = refl
row_at-empty [] (suc k) = refl
row_at-empty (row ∷ rows) zero = refl
row_at-empty (row ∷ rows) (suc k) = row_at-empty rows k
