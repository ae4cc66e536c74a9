-- Rows of words that lie in one list, each with a head.
use Rattle.std.proofs.Common.{◌≡◌, ◌≤◌, ◌<◌, ℕ, zero, suc, ◌+◌, ◌-◌, List, [], ◌∷◌, ◌++◌, length, get_or, drop, refl, sym, ap, ◌∙◌, arith, subst, Some}
use Rattle.std.specs.Prelude.{slice_range, slice_get}
use Rattle.std.proofs.lemmas.List.{take_all, drop_all, drop-drop, take-append-drop}
use Rattle.std.proofs.lemmas.List.Edits.{length-between}
use Rattle.std.proofs.lemmas.Option.{slice_get-get_or}
use Rattle.bsp_model.specs.Inside.Blocks.{rows_from, AreEnds, start_at}
use Rattle.bsp_model.proofs.RowsOf.{range-before, range-behind}

pub length-rows_from : {H : Type 0} (start : ℕ) (heads : List (H × ℕ)) (words : List ℕ) → length (rows_from start heads words) ≡ length heads
unfolding rows_from
length-rows_from start [] words = refl
length-rows_from start (head ∷ later) words = ap suc (length-rows_from head.1 later words)

-- where a row starts is the end of the row before
pub start_behind : {H : Type 0} (i start : ℕ) (heads : List (H × ℕ)) (before : H × ℕ) → i < length heads → before ≡ get_or heads i before → start_at (suc i) start heads ≡ before.1
start_behind i start [] before l e = absurd (omega (arith, l))
start_behind zero start (head ∷ later) before l e = ap (λ h. h.1) (sym e)
start_behind (suc i) start (head ∷ later) before l e = start_behind i head.1 later before (omega (arith, l)) e

pub start_after : {H : Type 0} (i start : ℕ) (heads : List (H × ℕ)) (before : H × ℕ) → (i ≡ 0 → ⊥) → i < length heads → before ≡ get_or heads (i - 1) before → start_at i start heads ≡ before.1
start_after zero start heads before some l e = absurd (some refl)
start_after (suc i) start heads before some l e =
    let same : suc i - 1 ≡ i = omega arith in
    start_behind i start heads before (omega (arith, l)) (e ∙ ap (λ n. get_or heads n before) same)

pub get_or-rows_from : {H : Type 0} (i start : ℕ) (heads : List (H × ℕ)) (words : List ℕ) (head : H × ℕ) (row : H × (List ℕ)) → i < length heads → head ≡ get_or heads i head
    → get_or (rows_from start heads words) i row ≡ (head.0, slice_range words (start_at i start heads) head.1)
unfolding rows_from
get_or-rows_from i start [] words head row l e = absurd (omega (arith, l))
get_or-rows_from zero start (first ∷ later) words head row l e = ap (λ h. (h.0, slice_range words start h.1)) (sym e)
get_or-rows_from (suc i) start (first ∷ later) words head row l e = get_or-rows_from i first.1 later words head row (omega (arith, l)) e

-- the row at a place
pub row_at : {H : Type 0} (i start : ℕ) (heads : List (H × ℕ)) (words : List ℕ) (head : H × ℕ) → i < length heads → head ≡ get_or heads i head
    → slice_get (rows_from start heads words) i ≡ Some (head.0, slice_range words (start_at i start heads) head.1)
row_at i start heads words head l e =
    slice_get-get_or (rows_from start heads words) i (head.0, []) (omega (arith, l, length-rows_from start heads words))
    ∙ ap Some (get_or-rows_from i start heads words head (head.0, []) l e)

pub first_end : {H : Type 0} (start : ℕ) (heads : List (H × ℕ)) (len : ℕ) → AreEnds start heads len → start ≤ len
first_end start [] len a = omega (arith, a)
first_end start (head ∷ later) len a = omega (arith, a.0, first_end head.1 later len a.1)

pub start_below : {H : Type 0} (i start : ℕ) (heads : List (H × ℕ)) (len : ℕ) (head : H × ℕ) → AreEnds start heads len → i < length heads → head ≡ get_or heads i head → start_at i start heads ≤ head.1
start_below i start [] len head a l e = absurd (omega (arith, l))
start_below zero start (first ∷ later) len head a l e = omega (arith, a.0, ap (λ h. h.1) e)
start_below (suc i) start (first ∷ later) len head a l e = start_below i first.1 later len head a.1 (omega (arith, l)) e

pub end_below : {H : Type 0} (i start : ℕ) (heads : List (H × ℕ)) (len : ℕ) (head : H × ℕ) → AreEnds start heads len → i < length heads → head ≡ get_or heads i head → head.1 ≤ len
end_below i start [] len head a l e = absurd (omega (arith, l))
end_below zero start (first ∷ later) len head a l e = omega (arith, first_end first.1 later len a.1, ap (λ h. h.1) e)
end_below (suc i) start (first ∷ later) len head a l e = end_below i first.1 later len head a.1 (omega (arith, l)) e

-- a row more

pub AreEnds-push : {H : Type 0} (start : ℕ) (heads : List (H × ℕ)) (head : H × ℕ) (len : ℕ) → AreEnds start heads len → len ≤ head.1 → AreEnds start (heads ++ head ∷ []) head.1
AreEnds-push start [] head len a more = (omega (arith, a, more), refl)
AreEnds-push start (first ∷ later) head len a more = (a.0, AreEnds-push first.1 later head len a.1 more)

pub rows_from-push : {H : Type 0} (start : ℕ) (heads : List (H × ℕ)) (words row : List ℕ) (head : H) (len : ℕ) → AreEnds start heads (length words) → len ≡ length words + length row
    → rows_from start (heads ++ (head, len) ∷ []) (words ++ row) ≡ rows_from start heads words ++ (head, row) ∷ []
unfolding rows_from
rows_from-push start [] words row head len are e =
    let from : start ≡ length words + 0 = omega (arith, are) in
    ap (λ (k : ℕ). rows_from k ((head, len) ∷ []) (words ++ row)) from
    ∙ ap (λ n. (head, slice_range (words ++ row) (length words + 0) n) ∷ []) e
    ∙ ap (λ r. (head, r) ∷ []) (range-behind words row 0 (length row) ∙ take_all (length row - 0) row (omega arith))
rows_from-push start (first ∷ later) words row head len are e =
    ap (λ r. (first.0, r) ∷ rows_from first.1 (later ++ (head, len) ∷ []) (words ++ row)) (range-before words row start first.1 (first_end first.1 later _ are.1))
    ∙ ap (λ rs. (first.0, slice_range words start first.1) ∷ rs) (rows_from-push first.1 later words row head len are.1 e)

-- rows that are equal

rest_of : (words : List ℕ) (i j : ℕ) → i ≤ j → slice_range words i j ++ drop j words ≡ drop i words
rest_of words i j h =
    let same : i + (j - i) ≡ j = omega arith in
    ap (λ ws. slice_range words i j ++ ws) (ap (λ n. drop n words) (sym same) ∙ sym (drop-drop (j - i) i words)) ∙ take-append-drop (j - i) (drop i words)

pub same_rows : {H : Type 0} (start : ℕ) (heads heads' : List (H × ℕ)) (words words' : List ℕ) → AreEnds start heads (length words) → AreEnds start heads' (length words')
    → rows_from start heads words ≡ rows_from start heads' words' → (heads ≡ heads') × (drop start words ≡ drop start words')
unfolding rows_from
same_rows start [] [] words words' a a' e = (refl, drop_all start words (omega (arith, a)) ∙ sym (drop_all start words' (omega (arith, a'))))
same_rows start [] (head' ∷ later') words words' a a' e = cc
same_rows start (head ∷ later) [] words words' a a' e = cc
same_rows {H = H} start (head ∷ later) (head' ∷ later') words words' a a' e =
    let none : H × (List ℕ) = (head.0, []) in
    let first = ap (λ (rows : List (H × (List ℕ))). get_or rows 0 none) e in
    let heads : head.0 ≡ head'.0 = ap (λ (row : H × (List ℕ)). row.0) first in
    let row : slice_range words start head.1 ≡ slice_range words' start head'.1 = ap (λ (row : H × (List ℕ)). row.1) first in
    let end : head.1 ≡ head'.1 =
    omega (arith, ap length row, length-between words start head.1 (first_end head.1 later _ a.1), length-between words' start head'.1 (first_end head'.1 later' _ a'.1), a.0, a'.0) in
    let both : head ≡ head' = ap (λ (h : H). (h, head.1)) heads ∙ ap (λ (n : ℕ). (head'.0, n)) end in
    let later_rows : rows_from head.1 later words ≡ rows_from head.1 later' words' =
    ◌∙◌ {b = rows_from head'.1 later' words'} (ap (drop 1) e) (ap (λ n. rows_from n later' words') (sym end)) in
    let rest = same_rows head.1 later later' words words' a.1 (subst (λ n. AreEnds n later' (length words')) (sym end) a'.1) later_rows in (
      ap (λ h. h ∷ later) both ∙ ap (λ hs. head' ∷ hs) rest.0,
      sym (rest_of words start head.1 a.0)
          ∙ ap (λ ws. ws ++ drop head.1 words) row
          ∙ ap (λ ws. slice_range words' start head'.1 ++ ws) (rest.1 ∙ ap (λ n. drop n words') end)
          ∙ rest_of words' start head'.1 a'.0,
    )
