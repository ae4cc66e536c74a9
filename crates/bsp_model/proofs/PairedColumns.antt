-- Columns in which a row stands for what the two rows of a process are together.
use Rattle.std.proofs.Common.{◌≡◌, inl, inr, ◌+◌, ◌-◌, ℕ, zero, suc, List, [], ◌∷◌, refl, sym, ap, ◌∙◌, subst, arith}
use Rattle.std.specs.Prelude.{◌&&◌, length, nat_eq}
use Rattle.std.proofs.lemmas.Bool.{cases_lt}
use Rattle.std.proofs.lemmas.Bool.Decides.{nat_tests}
use Rattle.bsp_model.specs.Columns.{row_at, AreCut, IsPut, AreTaken}
use Rattle.bsp_model.specs.Inside.Columns.{pair_at, paired}

-- what the two rows of a process stand for
row_at-paired : {A B X : Type 0} (f : List A → List B → List X) (firsts : List (List A)) (seconds : List (List B)) (k : ℕ) → f [] [] ≡ [] → row_at (paired f firsts seconds) k ≡ f (row_at firsts k) (row_at seconds k)
row_at-paired f [] [] k none = sym none
row_at-paired f [] (b ∷ seconds) zero none = refl
row_at-paired f [] (b ∷ seconds) (suc k) none = row_at-paired f [] seconds k none
row_at-paired f (a ∷ firsts) [] zero none = refl
row_at-paired f (a ∷ firsts) [] (suc k) none = row_at-paired f firsts [] k none
row_at-paired f (a ∷ firsts) (b ∷ seconds) zero none = refl
row_at-paired f (a ∷ firsts) (b ∷ seconds) (suc k) none = row_at-paired f firsts seconds k none

-- no rows of either kind stand for no rows
pub none-paired : {A B X : Type 0} (f : List A → List B → List X) (firsts : List (List A)) (seconds : List (List B)) → (nat_eq (length firsts) 0 && nat_eq (length seconds) 0) ≡ nat_eq (length (paired f firsts seconds)) 0
none-paired f [] [] = refl
none-paired f [] (b ∷ seconds) = grind (arith, nat_tests)
none-paired f (a ∷ firsts) [] = grind (arith, nat_tests)
none-paired f (a ∷ firsts) (b ∷ seconds) = grind (arith, nat_tests)

-- the row of a process, where it is known what the two rows are
pub row_from-pair : {A B X : Type 0} (f : List A → List B → List X) (pairs : (List (List A)) × (List (List B))) (rows : List (List X)) (k : ℕ) (pair : (List A) × (List B)) → f [] [] ≡ [] → paired f pairs.0 pairs.1 ≡ rows → pair ≡ pair_at pairs k
    → f pair.0 pair.1 ≡ row_at rows k
row_from-pair f pairs rows k pair none is at =
    ap (λ p. f p.0 p.1) at ∙ sym (row_at-paired f pairs.0 pairs.1 k none) ∙ ap (λ rs. row_at rs k) is

-- the row, where the pair of a process is that of another column
same_row : {A B X : Type 0} (f : List A → List B → List X) (new : (List (List A)) × (List (List B))) (k : ℕ) (pair : (List A) × (List B)) → f [] [] ≡ [] → pair_at new k ≡ pair → row_at (paired f new.0 new.1) k ≡ f pair.0 pair.1
same_row f new k pair none at = row_at-paired f new.0 new.1 k none ∙ ap (λ p. f p.0 p.1) at

pub cut_paired : {A B X : Type 0} (f : List A → List B → List X) (old new : (List (List A)) × (List (List B))) (rows : List (List X)) (place : ℕ) → f [] [] ≡ [] → paired f old.0 old.1 ≡ rows → AreCut ([], []) (pair_at old) place (pair_at new)
    → AreCut [] (row_at rows) place (row_at (paired f new.0 new.1))
cut_paired f old new rows place none is cut = record {
  before = λ k below. same_row f new k (pair_at old k) none (cut.before k below) ∙ row_from-pair f old rows k (pair_at old k) none is refl;
  behind = λ k above. same_row f new k ([], []) none (cut.behind k above) ∙ none;
}

pub put_paired : {A B X : Type 0} (f : List A → List B → List X) (old new : (List (List A)) × (List (List B))) (rows : List (List X)) (place : ℕ) (a : List A) (b : List B) (row : List X) → f [] [] ≡ [] → paired f old.0 old.1 ≡ rows → f a b ≡ row
    → IsPut ([], []) (pair_at old) place (a, b) (pair_at new) → IsPut [] (row_at rows) place row (row_at (paired f new.0 new.1))
put_paired f old new rows place a b row none is made put = record {
  before = λ k below. same_row f new k (pair_at old k) none (put.before k below) ∙ row_from-pair f old rows k (pair_at old k) none is refl;
  there = same_row f new place (a, b) none put.there ∙ made;
  behind = λ k above. same_row f new k ([], []) none (put.behind k above) ∙ none;
}

pub taken_paired : {A B X : Type 0} (f : List A → List B → List X) (old more new : (List (List A)) × (List (List B))) (rows others : List (List X)) (place from to : ℕ) → f [] [] ≡ [] → paired f old.0 old.1 ≡ rows → paired f more.0 more.1 ≡ others
    → AreTaken ([], []) (pair_at old) place (pair_at more) from to (pair_at new)
    → AreTaken [] (row_at rows) place (row_at others) from to (row_at (paired f new.0 new.1))
taken_paired f old more new rows others place from to none is are taken = record {
  before = λ k below. same_row f new k (pair_at old k) none (taken.before k below) ∙ row_from-pair f old rows k (pair_at old k) none is refl;
  taken = λ k above below. let there = from + (k - place) in same_row f new k (pair_at more there) none (taken.taken k above below) ∙ row_from-pair f more others there (pair_at more there) none are refl;
  behind = λ k above over. same_row f new k ([], []) none (taken.behind k above over) ∙ none;
}

-- What holds of the two rows of each process holds still.

law_at : {A B : Type 0} (L : List A → List B → Type 0) (pair pair' : (List A) × (List B)) → pair' ≡ pair → L pair.0 pair.1 → L pair'.0 pair'.1
law_at {A = A} {B = B} L pair pair' same holds = let P : (List A) × (List B) → Type 0 = λ p. L p.0 p.1 in subst P (sym same) holds

pub none_law : {A B : Type 0} (L : List A → List B → Type 0) (pairs : (List (List A)) × (List (List B))) → L [] [] → pairs ≡ ([], []) → (k : ℕ) → L (pair_at pairs k).0 (pair_at pairs k).1
none_law L pairs none is k = law_at L ([], []) (pair_at pairs k) (ap (λ p. pair_at p k) is) none

pub cut_law : {A B : Type 0} (L : List A → List B → Type 0) (old new : (List (List A)) × (List (List B))) (place : ℕ) → L [] [] → ((k : ℕ) → L (pair_at old k).0 (pair_at old k).1) → AreCut ([], []) (pair_at old) place (pair_at new)
    → (k : ℕ) → L (pair_at new k).0 (pair_at new k).1
cut_law L old new place none law cut k =
    elim (cases_lt k place) [
      | inl below ↦ law_at L (pair_at old k) (pair_at new k) (cut.before k below) (law k)
      | inr above ↦ law_at L ([], []) (pair_at new k) (cut.behind k above) none
    ]

pub put_law : {A B : Type 0} (L : List A → List B → Type 0) (old new : (List (List A)) × (List (List B))) (place : ℕ) (a : List A) (b : List B) → L [] [] → ((k : ℕ) → L (pair_at old k).0 (pair_at old k).1) → L a b
    → IsPut ([], []) (pair_at old) place (a, b) (pair_at new) → (k : ℕ) → L (pair_at new k).0 (pair_at new k).1
put_law L old new place a b none law row put k =
    elim (cases_lt k place) [
      | inl below ↦ law_at L (pair_at old k) (pair_at new k) (put.before k below) (law k)
      | inr above ↦ elim (cases_lt place k) [
        | inl behind ↦ law_at L ([], []) (pair_at new k) (put.behind k behind) none
        | inr there ↦ let same : k ≡ place = omega arith in law_at L (a, b) (pair_at new k) (ap (pair_at new) same ∙ put.there) row
      ]
    ]

pub taken_law : {A B : Type 0} (L : List A → List B → Type 0) (old more new : (List (List A)) × (List (List B))) (place from to : ℕ) → L [] [] → ((k : ℕ) → L (pair_at old k).0 (pair_at old k).1) → ((k : ℕ) → L (pair_at more k).0 (pair_at more k).1)
    → AreTaken ([], []) (pair_at old) place (pair_at more) from to (pair_at new) → (k : ℕ) → L (pair_at new k).0 (pair_at new k).1
taken_law L old more new place from to none law other taken k =
    elim (cases_lt k place) [
      | inl below ↦ law_at L (pair_at old k) (pair_at new k) (taken.before k below) (law k)
      | inr above ↦ elim (cases_lt k (place + (to - from))) [
        | inl within ↦ let there = from + (k - place) in law_at L (pair_at more there) (pair_at new k) (taken.taken k above within) (other there)
        | inr behind ↦ law_at L ([], []) (pair_at new k) (taken.behind k above behind) none
      ]
    ]
