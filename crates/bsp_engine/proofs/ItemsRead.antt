-- The lines of items that have changed are read back: which items they are, and lines of items like them.
use Rattle.std.proofs.Common.{◌≡◌, ◌<◌, ◌≤◌, ◌+◌, ◌==◌, ◌^◌, ℕ, zero, suc, true, false, cond, List, [], ◌∷◌, ◌++◌, drop, length, Option, None, Some, refl, sym, ◌∙◌, subst, arith, append_assoc}
use Rattle.std.specs.List.{AllZip}
use Rattle.bsp_engine.specs.Changes.{piece_if}
use Rattle.bsp_text.specs.Lines.{numbered}
use Rattle.bsp_engine.specs.Whole.{first_of, items_with, numbers_of}

-- the text does not begin with a piece for item n
abbrev pub IsPast : {A : Type 0} → (ℕ → A → List ℕ) → ℕ → List ℕ → Type 0
IsPast {A} piece n text = (x : A) (later : List ℕ) → text ≡ piece n x ++ later → ⊥

-- nor with one for any item that has a number of 64 bits
abbrev pub IsBehind : {A : Type 0} → (ℕ → A → List ℕ) → List ℕ → Type 0
IsBehind piece text = (n : ℕ) → n < 2 ^ 64 → IsPast piece n text

-- the same number, and items that are alike
abbrev pub Told : {A : Type 0} → (A → A → Type 0) → ℕ × A → ℕ × A → Type 0
Told Alike item other = (item.0 ≡ other.0) × Alike item.1 other.1

-- Pieces from which the number of the item is read, and what is alike where no further piece of the item follows.
pub record AreRead {A : Type 0} (piece : ℕ → A → List ℕ) (Alike : A → A → Type 0) : Type 0 where
  pub number : (n m : ℕ) (x y : A) (later others : List ℕ) → n < 2 ^ 64 → m < 2 ^ 64 → piece n x ++ later ≡ piece m y ++ others → n ≡ m
  pub item : (n : ℕ) (x y : A) (later others : List ℕ) → IsPast piece n later → IsPast piece n others → piece n x ++ later ≡ piece n y ++ others → Alike x y × (later ≡ others)

module _ {A : Type 0} (piece : ℕ → A → List ℕ) (Alike : A → A → Type 0) (read : AreRead piece Alike) where
  abbrev section : ℕ → List (Option A) → List ℕ
  section n c = numbered (piece_if piece) n c

  past : (c : List (Option A)) (n m : ℕ) (rest : List ℕ) → n < m → m + length c ≤ 2 ^ 64 → IsBehind piece rest → IsPast piece n (section m c ++ rest)
  past [] n m rest l few behind = behind n (omega arith)
  past (None ∷ c) n m rest l few behind = past c n (m + 1) rest (omega arith) (omega arith) behind
  past (Some x ∷ c) n m rest l few behind = λ y later e.
      let same = read.number m n x y (section (m + 1) c ++ rest) later (omega arith) (omega arith) (sym (append_assoc (piece m x) (section (m + 1) c) rest) ∙ e) in
      omega (arith, same)

  none_read : (c : List (Option A)) (n : ℕ) (rest others : List ℕ) → n + length c ≤ 2 ^ 64 → IsBehind piece rest → rest ≡ section n c ++ others → AllZip (Told Alike) [] (numbers_of n c) × (rest ≡ others)
  none_read [] n rest others few behind e = (tt, e)
  none_read (None ∷ c) n rest others few behind e = none_read c (n + 1) rest others (omega arith) behind e
  none_read (Some x ∷ c) n rest others few behind e = absurd (behind n (omega arith) x (section (n + 1) c ++ others) (e ∙ append_assoc (piece n x) (section (n + 1) c) others))

  pub section_read : (c d : List (Option A)) (n : ℕ) (rest others : List ℕ) → n + length c ≤ 2 ^ 64 → n + length d ≤ 2 ^ 64 → IsBehind piece rest → IsBehind piece others → section n c ++ rest ≡ section n d ++ others
      → AllZip (Told Alike) (numbers_of n c) (numbers_of n d) × (rest ≡ others)
  section_read [] d n rest others few as_few behind as_behind e = none_read d n rest others as_few behind e
  section_read (None ∷ c) [] n rest others few as_few behind as_behind e = section_read c [] (n + 1) rest others (omega arith) (omega arith) behind as_behind e
  section_read (None ∷ c) (None ∷ d) n rest others few as_few behind as_behind e = section_read c d (n + 1) rest others (omega arith) (omega arith) behind as_behind e
  section_read (None ∷ c) (Some y ∷ d) n rest others few as_few behind as_behind e =
      absurd (past c n (n + 1) rest (omega arith) (omega arith) behind y (section (n + 1) d ++ others) (e ∙ append_assoc (piece n y) (section (n + 1) d) others))
  section_read (Some x ∷ c) [] n rest others few as_few behind as_behind e =
      absurd (as_behind n (omega arith) x (section (n + 1) c ++ rest) (sym e ∙ append_assoc (piece n x) (section (n + 1) c) rest))
  section_read (Some x ∷ c) (None ∷ d) n rest others few as_few behind as_behind e =
      absurd (past d n (n + 1) others (omega arith) (omega arith) as_behind x (section (n + 1) c ++ rest) (sym e ∙ append_assoc (piece n x) (section (n + 1) c) rest))
  section_read (Some x ∷ c) (Some y ∷ d) n rest others few as_few behind as_behind e =
      let here = read.item n x y (section (n + 1) c ++ rest) (section (n + 1) d ++ others) (past c n (n + 1) rest (omega arith) (omega arith) behind) (past d n (n + 1) others (omega arith) (omega arith) as_behind)
      (sym (append_assoc (piece n x) (section (n + 1) c) rest) ∙ e ∙ append_assoc (piece n y) (section (n + 1) d) others) in
      let more = section_read c d (n + 1) rest others (omega arith) (omega arith) behind as_behind here.1 in
      (((refl, here.0), more.0), more.1)

module _ {A : Type 0} (Alike : A → A → Type 0) where
  first_alike : (olds others : List A) (news more : List A) → AllZip Alike olds others → AllZip Alike news more → AllZip Alike (first_of olds ++ news) (first_of others ++ more)
  first_alike [] [] news more a b = b
  first_alike (x ∷ olds) (y ∷ others) news more a b = (a.0, b)
  first_alike [] (y ∷ others) news more a b = absurd a
  first_alike (x ∷ olds) [] news more a b = absurd a

  drop_alike : (olds others : List A) → AllZip Alike olds others → AllZip Alike (drop 1 olds) (drop 1 others)
  drop_alike [] [] a = tt
  drop_alike (x ∷ olds) (y ∷ others) a = a.1
  drop_alike [] (y ∷ others) a = absurd a
  drop_alike (x ∷ olds) [] a = absurd a

  -- items that are told alike, over items that were alike
  pub items_alike : (count n : ℕ) (olds others : List A) (told retold : List (ℕ × A)) → AllZip Alike olds others → AllZip (Told Alike) told retold → AllZip Alike (items_with count n olds told) (items_with count n others retold)
  items_alike zero n olds others told retold a b = tt
  items_alike (suc count) n olds others [] [] a b = first_alike olds others _ _ a (items_alike count (n + 1) (drop 1 olds) (drop 1 others) [] [] (drop_alike olds others a) tt)
  items_alike (suc count) n olds others [] (item ∷ retold) a b = absurd b
  items_alike (suc count) n olds others (item ∷ told) [] a b = absurd b
  items_alike (suc count) n olds others (item ∷ told) (reitem ∷ retold) a b =
      let dropped = drop_alike olds others a in
      let taken : AllZip Alike (item.1 ∷ items_with count (n + 1) (drop 1 olds) told) (reitem.1 ∷ items_with count (n + 1) (drop 1 others) retold) =
      (b.0.1, items_alike count (n + 1) (drop 1 olds) (drop 1 others) told retold dropped b.1) in
      let left : AllZip Alike (first_of olds ++ items_with count (n + 1) (drop 1 olds) (item ∷ told)) (first_of others ++ items_with count (n + 1) (drop 1 others) (reitem ∷ retold)) =
      first_alike olds others _ _ a (items_alike count (n + 1) (drop 1 olds) (drop 1 others) (item ∷ told) (reitem ∷ retold) dropped b) in
      subst (λ (k : ℕ). AllZip Alike (cond (item.0 == n) (item.1 ∷ items_with count (n + 1) (drop 1 olds) told) (first_of olds ++ items_with count (n + 1) (drop 1 olds) (item ∷ told)))
      (cond (k == n) (reitem.1 ∷ items_with count (n + 1) (drop 1 others) retold) (first_of others ++ items_with count (n + 1) (drop 1 others) (reitem ∷ retold)))) b.0.0
      (elim (item.0 == n) as (λ t. AllZip Alike (cond t (item.1 ∷ items_with count (n + 1) (drop 1 olds) told) (first_of olds ++ items_with count (n + 1) (drop 1 olds) (item ∷ told)))
      (cond t (reitem.1 ∷ items_with count (n + 1) (drop 1 others) retold) (first_of others ++ items_with count (n + 1) (drop 1 others) (reitem ∷ retold)))) [ true ↦ taken | false ↦ left ])
