-- Rows with an open row behind them, alone and in pairs.
use Rattle.std.proofs.Common.{◌≡◌, ◌≤◌, ◌<◌, ℕ, zero, suc, List, [], ◌∷◌, length, take, drop, min, refl, sym, ap, ◌∙◌, subst, arith}
use Rattle.std.proofs.lemmas.List.{same_lists, places, length-take-le, length-take, get_or-take, get_or_past, nil_from_length}
use Rattle.std.proofs.lemmas.Bool.Decides.{nat_tests}
use Rattle.bsp_model.specs.Columns.{row_at, AreCut, IsPut}
use Rattle.bsp_model.specs.Inside.Rows.{rows_of, AreEnds}
use Rattle.bsp_model.specs.Inside.Columns.{pair_at, paired}
use Rattle.bsp_model.specs.Inside.OpenRow.{opened_in, IsOpen}
use Rattle.bsp_model.proofs.RowsOf.{length-rows_of}
use Rattle.bsp_model.proofs.RowsBetween.{start_at, start_at-within, AreEnds-take}
use Rattle.bsp_model.proofs.RowsCut.{rows_of-first}
use Rattle.bsp_model.proofs.PairedColumns.{cut_law}

-- the first rows

take-take : {X : Type 0} (xs : List X) (m n : ℕ) → m ≤ n → take m (take n xs) ≡ take m xs
take-take xs m n few = same_lists _ _ (grind (arith, places)) (λ k d l. grind (arith, places))

take-min : {X : Type 0} (xs : List X) (n m : ℕ) → m ≡ min n (length xs) → take m xs ≡ take n xs
take-min xs n m is = same_lists _ _ (grind (arith, places, nat_tests)) (λ k d l. grind (arith, places, nat_tests))

pub cut_open : {X : Type 0} (items : List X) (ends : List ℕ) (start place n : ℕ) → IsOpen items ends start → n ≡ min place (length ends)
    → IsOpen (take (start_at 0 ends n) items) (take n ends) (start_at 0 ends n) × (opened_in (take (start_at 0 ends n) items) (take n ends) (start_at 0 ends n) ≡ record { rows = take place (opened_in items ends start).rows; last = [] })
cut_open items ends start place n is at =
    let s = start_at 0 ends n in
    let within : n ≤ length ends = omega (arith, at) in
    let before : s ≤ start = start_at-within ends start n is.ends_there within in
    let front = take start items in
    let long : length front ≡ start = length-take-le start items is.inside in
    let cut : length (take s items) ≡ s = length-take-le s items (omega (arith, before, is.inside)) in
    let are : AreEnds 0 ends (length front) = subst (AreEnds 0 ends) (sym long) is.ends_there in
    let rows : rows_of 0 (take s (take s items)) (take n ends) ≡ take place (rows_of 0 front ends) =
    ap (λ xs. rows_of 0 xs (take n ends)) (take-take items s s (omega arith) ∙ sym (take-take items s start before))
    ∙ rows_of-first front ends n are within
    ∙ take-min (rows_of 0 front ends) place n (at ∙ ap (min place) (sym (length-rows_of 0 front ends))) in
    let none : drop s (take s items) ≡ [] = nil_from_length (drop s (take s items)) (grind (arith, places)) in (
      record { ends_there = AreEnds-take 0 ends start n is.ends_there within; inside = omega (arith, cut) },
      λ i. record { rows = rows i; last = none i },
    )

-- in pairs

take_nil : {X : Type 0} (n : ℕ) → take {A = X} n [] ≡ []
take_nil zero = refl
take_nil (suc n) = refl

pub take-paired : {A B X : Type 0} (f : List A → List B → List X) (firsts : List (List A)) (seconds : List (List B)) (n : ℕ) → paired f (take n firsts) (take n seconds) ≡ take n (paired f firsts seconds)
take-paired f firsts seconds zero = refl
take-paired f [] [] (suc n) = refl
take-paired f [] (b ∷ seconds) (suc n) =
    ap (λ firsts. f [] b ∷ paired f firsts (take n seconds)) (sym (take_nil n)) ∙ ap (λ rows. f [] b ∷ rows) (take-paired f [] seconds n)
take-paired f (a ∷ firsts) [] (suc n) =
    ap (λ seconds. f a [] ∷ paired f (take n firsts) seconds) (sym (take_nil n)) ∙ ap (λ rows. f a [] ∷ rows) (take-paired f firsts [] n)
take-paired f (a ∷ firsts) (b ∷ seconds) (suc n) = ap (λ rows. f a b ∷ rows) (take-paired f firsts seconds n)

pub firsts-within : {A B X : Type 0} (f : List A → List B → List X) (firsts : List (List A)) (seconds : List (List B)) → length firsts ≤ length (paired f firsts seconds)
firsts-within f [] seconds = omega arith
firsts-within f (a ∷ firsts) [] = omega (arith, firsts-within f firsts [])
firsts-within f (a ∷ firsts) (b ∷ seconds) = omega (arith, firsts-within f firsts seconds)

pub seconds-within : {A B X : Type 0} (f : List A → List B → List X) (firsts : List (List A)) (seconds : List (List B)) → length seconds ≤ length (paired f firsts seconds)
seconds-within f firsts [] = omega arith
seconds-within f [] (b ∷ seconds) = omega (arith, seconds-within f [] seconds)
seconds-within f (a ∷ firsts) (b ∷ seconds) = omega (arith, seconds-within f firsts seconds)

-- together they are no more than either
pub paired-within : {A B X : Type 0} (f : List A → List B → List X) (firsts : List (List A)) (seconds : List (List B)) (n : ℕ) → length firsts ≤ n → length seconds ≤ n → length (paired f firsts seconds) ≤ n
paired-within f [] [] n few few' = omega arith
paired-within f [] (b ∷ seconds) zero few few' = absurd (omega arith)
paired-within f [] (b ∷ seconds) (suc n) few few' = omega (arith, paired-within f [] seconds n (omega arith) (omega arith))
paired-within f (a ∷ firsts) [] zero few few' = absurd (omega arith)
paired-within f (a ∷ firsts) [] (suc n) few few' = omega (arith, paired-within f firsts [] n (omega arith) (omega arith))
paired-within f (a ∷ firsts) (b ∷ seconds) zero few few' = absurd (omega arith)
paired-within f (a ∷ firsts) (b ∷ seconds) (suc n) few few' = omega (arith, paired-within f firsts seconds n (omega arith) (omega arith))

-- the pairs before a place
pub cut_pairs : {A B : Type 0} (firsts : List (List A)) (seconds : List (List B)) (place : ℕ) → AreCut ([], []) (pair_at (firsts, seconds)) place (pair_at (take place firsts, take place seconds))
cut_pairs firsts seconds place = record {
  before = λ k below. λ i. (get_or-take place firsts k [] below i, get_or-take place seconds k [] below i);
  behind = λ k above. λ i. (
    get_or_past (take place firsts) k [] (omega (arith, above, length-take place firsts)) i,
    get_or_past (take place seconds) k [] (omega (arith, above, length-take place seconds)) i,
  );
}

pub take_law : {A B : Type 0} (L : List A → List B → Type 0) (firsts : List (List A)) (seconds : List (List B)) (place : ℕ) → L [] [] → ((k : ℕ) → L (row_at firsts k) (row_at seconds k)) → (k : ℕ) → L (row_at (take place firsts) k) (row_at (take place seconds) k)
take_law L firsts seconds place none law = cut_law L (firsts, seconds) (take place firsts, take place seconds) place none law (cut_pairs firsts seconds place)

-- both rows of a process are put
pub put_pair : {A B : Type 0} (firsts new : List (List A)) (seconds new' : List (List B)) (place : ℕ) (a : List A) (b : List B) → IsPut [] (row_at firsts) place a (row_at new) → IsPut [] (row_at seconds) place b (row_at new') → IsPut ([], []) (pair_at (firsts, seconds)) place (a, b) (pair_at (new, new'))
put_pair firsts new seconds new' place a b first second = record {
  before = λ k below. λ i. (first.before k below i, second.before k below i);
  there = λ i. (first.there i, second.there i);
  behind = λ k above. λ i. (first.behind k above i, second.behind k above i);
}

-- those before a place are kept, whatever the rows behind them are
pub cut_both : {A B : Type 0} (firsts new : List (List A)) (seconds new' : List (List B)) (place : ℕ) → ((k : ℕ) → k < place → row_at new k ≡ row_at firsts k) → ((k : ℕ) → k < place → row_at new' k ≡ row_at seconds k)
    → AreCut ([], []) (pair_at (firsts, seconds)) place (pair_at (take place new, take place new'))
cut_both firsts new seconds new' place first second =
    let cut = cut_pairs new new' place in
    record { before = λ k below. cut.before k below ∙ (λ i. (first k below i, second k below i)); behind = cut.behind }

-- nothing is put where no row stands
pub put_none : {X : Type 0} (rows : List (List X)) (place : ℕ) (last : List X) → length rows ≤ place → last ≡ [] → IsPut [] (row_at rows) place last (row_at rows)
put_none rows place last few none =
    record { before = λ k below. refl; there = get_or_past rows place [] few ∙ sym none; behind = λ k above. get_or_past rows k [] (omega (arith, few, above)) }
