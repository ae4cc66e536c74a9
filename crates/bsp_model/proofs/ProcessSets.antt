-- The processes of a set, one after the other.
use Rattle.std.proofs.Common.{◌≡◌, ◌<◌, ◌≤◌, ◌+◌, ◌-◌, ℕ, zero, suc, Bool, true, false, cond, List, [], ◌∷◌, filter, length, replicate, get_or, All, inl, inr, refl, sym, ap, ◌∙◌, subst, arith}
use Rattle.std.specs.Prelude.{◌↔◌, IsTrue, slice_get, Some, not}
use Rattle.std.specs.Option.{is_some}
use Rattle.std.specs.List.{range_with_len, Contains}
use Rattle.std.proofs.lemmas.Bool.{false≢true, cases_lt, cases_eq, cases_Bool, cond-true, cond-false}
use Rattle.std.proofs.lemmas.List.{get_or-replicate, get_or_past, length-replicate}
use Rattle.std.proofs.lemmas.List.Elements.{All-from_get_or, All-contains, filter_passes}
use Rattle.bsp_model.specs.ProcessSet.{processes_in, processes_from}

-- numbers of a range that pass a test

-- none does
range_none : (f : ℕ → Bool) (a n : ℕ) → ((p : ℕ) → a ≤ p → p < a + n → f p ≡ false) → filter f (range_with_len a n) ≡ []
range_none f a zero none = refl
range_none f a (suc n) none =
    cond-false (f a) (a ∷ filter f (range_with_len (a + 1) n)) (filter f (range_with_len (a + 1) n)) (none a (omega arith) (omega arith))
    ∙ range_none f (a + 1) n (λ p l m. none p (omega (arith, l)) (omega (arith, m)))

-- the first that does
range_first : (f : ℕ → Bool) (a n q : ℕ) → a ≤ q → q < a + n → f q ≡ true → ((p : ℕ) → a ≤ p → p < q → f p ≡ false)
    → filter f (range_with_len a n) ≡ q ∷ filter f (range_with_len (q + 1) (a + n - (q + 1)))
range_first f a zero q above below here none = absurd (omega (arith, above, below))
range_first f a (suc n) q above below here none =
    let rest = filter f (range_with_len (a + 1) n) in
    elim (cases_eq a q) [
      | inl e ↦
          let left : n ≡ a + suc n - (q + 1) = omega (arith, e) in
          cond-true (f a) (a ∷ rest) rest (ap f e ∙ here) ∙ ap (λ k. k ∷ filter f (range_with_len (k + 1) n)) e ∙ ap (λ k. q ∷ filter f (range_with_len (q + 1) k)) left
      | inr ne ↦
          let order : a < q = omega (arith, above, ne) in
          let left : a + 1 + n - (q + 1) ≡ a + suc n - (q + 1) = omega arith in
          cond-false (f a) (a ∷ rest) rest (none a (omega arith) order)
          ∙ range_first f (a + 1) n q (omega (arith, order)) (omega (arith, below)) here (λ p l m. none p (omega (arith, l)) m)
          ∙ ap (λ k. q ∷ filter f (range_with_len (q + 1) k)) left
    ]

cond_cases : (b : Bool) (xs ys : List ℕ) (P : List ℕ → Type 0) → P xs → P ys → P (cond b xs ys)
cond_cases b xs ys P x y = elim b as (λ v. P (cond v xs ys)) [ true ↦ x | false ↦ y ]

-- the first and those behind it
first_later : (a b : ℕ) (rest : List ℕ) → a < b → ((k : ℕ) → k < length rest → (a ≤ get_or rest k 0) × (get_or rest k 0 < b)) → (k : ℕ) → k < length (a ∷ rest) → (a ≤ get_or (a ∷ rest) k 0) × (get_or (a ∷ rest) k 0 < b)
first_later a b rest below later zero inside = (omega arith, below)
first_later a b rest below later (suc k) inside = later k (omega (arith, inside))

-- they are within the range
range_within : (f : ℕ → Bool) (a n : ℕ) (k : ℕ) → k < length (filter f (range_with_len a n)) → (a ≤ get_or (filter f (range_with_len a n)) k 0) × (get_or (filter f (range_with_len a n)) k 0 < a + n)
range_within f a zero k inside = absurd (omega (arith, inside))
range_within f a (suc n) k inside =
    let rest = filter f (range_with_len (a + 1) n) in
    let P : List ℕ → Type 0 = λ xs. (k : ℕ) → k < length xs → (a ≤ get_or xs k 0) × (get_or xs k 0 < a + suc n) in
    let later : P rest = λ j l. let w = range_within f (a + 1) n j l in (omega (arith, w.0), omega (arith, w.1)) in
    cond_cases (f a) (a ∷ rest) rest P (first_later a (a + suc n) rest (omega arith) later) later k inside

-- one of them that passes is among them
contains_later : (xs : List ℕ) (x y : ℕ) → Contains xs y → Contains (x ∷ xs) y
contains_later xs x y (k, l, e) = (suc k, omega (arith, l), e)

range_contains : (f : ℕ → Bool) (a n p : ℕ) → a ≤ p → p < a + n → f p ≡ true → Contains (filter f (range_with_len a n)) p
range_contains f a zero p l m t = absurd (omega (arith, l, m))
range_contains f a (suc n) p l m t =
    let rest = filter f (range_with_len (a + 1) n) in
    elim (cases_eq a p) [
      | inl e ↦
          subst (λ (xs : List ℕ). Contains xs p) (sym (cond-true (f a) (a ∷ rest) rest (ap f e ∙ t)))
          (subst (λ q. Contains (a ∷ rest) q) e (0, omega arith, refl))
      | inr ne ↦
          let there : Contains rest p = range_contains f (a + 1) n p (omega (arith, l, ne)) (omega (arith, m)) t in
          cond_cases (f a) (a ∷ rest) rest (λ xs. Contains xs p) (contains_later rest a p there) there
    ]

-- what is in no set is not a process of it
pub member_within : (s : List Bool) (p : ℕ) → get_or s p false ≡ true → p < length s
member_within s p member = elim (cases_lt p (length s)) [ inl l ↦ l | inr l ↦ absurd (false≢true (sym (get_or_past s p false l) ∙ member)) ]

pub processes_known : (s : List Bool) → All (λ p. p < length s) (processes_in s)
processes_known s = All-from_get_or (λ p. p < length s) (processes_in s) 0 (λ k l. let w = range_within (λ p. get_or s p false) 0 (length s) k l in omega (arith, w.1))

-- The processes of a set are those that are in it.
pub processes_are : (s : List Bool) (p : ℕ) → Contains (processes_in s) p ↔ (get_or s p false ≡ true)
processes_are s p = (
  λ there. All-contains (λ q. get_or s q false ≡ true) (processes_in s) p (filter_passes (λ q. get_or s q false) (range_with_len 0 (length s))) there,
  λ member. let within = member_within s p member in range_contains (λ q. get_or s q false) 0 (length s) p (omega arith) (omega (arith, within)) member,
)

pub processes_from_none : (s : List Bool) (from : ℕ) → ((p : ℕ) → from ≤ p → get_or s p false ≡ false) → processes_from s from ≡ []
processes_from_none s from none = range_none (λ p. get_or s p false) from (length s - from) (λ p l m. none p l)

pub processes_from_first : (s : List Bool) (from q : ℕ) → from ≤ q → get_or s q false ≡ true → ((p : ℕ) → from ≤ p → p < q → get_or s p false ≡ false)
    → processes_from s from ≡ q ∷ processes_from s (q + 1)
processes_from_first s from q above here none =
    let within = member_within s q here in
    let left : from + (length s - from) - (q + 1) ≡ length s - (q + 1) = omega (arith, above, within) in
    range_first (λ p. get_or s p false) from (length s - from) q above (omega (arith, above, within)) here none
    ∙ ap (λ n. q ∷ filter (λ p. get_or s p false) (range_with_len (q + 1) n)) left

-- those from the first number on
pub processes_from_start : (s : List Bool) → processes_from s 0 ≡ processes_in s
processes_from_start s = let all : length s - 0 ≡ length s = omega arith in ap (λ n. filter (λ p. get_or s p false) (range_with_len 0 n)) all

-- a list from its first item

range_head : (f : ℕ → Bool) (a n q : ℕ) → slice_get (filter f (range_with_len a n)) 0 ≡ Some q → filter f (range_with_len a n) ≡ q ∷ filter f (range_with_len (q + 1) (a + n - (q + 1)))
range_head f a zero q head = cc
range_head f a (suc n) q head =
    let rest = filter f (range_with_len (a + 1) n) in
    elim (cases_Bool (f a)) [
      | inl t ↦
          let whole : filter f (range_with_len a (suc n)) ≡ a ∷ rest = cond-true (f a) (a ∷ rest) rest t in
          let first : Some a ≡ Some q = sym (ap (λ (xs : List ℕ). slice_get xs 0) whole) ∙ head in
          let e : a ≡ q = cc in
          let left : n ≡ a + suc n - (q + 1) = omega (arith, e) in
          whole ∙ ap (λ k. k ∷ filter f (range_with_len (k + 1) n)) e ∙ ap (λ k. q ∷ filter f (range_with_len (q + 1) k)) left
      | inr t ↦
          let whole : filter f (range_with_len a (suc n)) ≡ rest = cond-false (f a) (a ∷ rest) rest t in
          let left : a + 1 + n - (q + 1) ≡ a + suc n - (q + 1) = omega arith in
          whole ∙ range_head f (a + 1) n q (sym (ap (λ (xs : List ℕ). slice_get xs 0) whole) ∙ head) ∙ ap (λ k. q ∷ filter f (range_with_len (q + 1) k)) left
    ]

-- The first process is followed by those behind it.
pub processes_from_head : (s : List Bool) (from q : ℕ) → slice_get (processes_from s from) 0 ≡ Some q → processes_from s from ≡ q ∷ processes_from s (q + 1)
processes_from_head s from q head =
    let f : ℕ → Bool = λ p. get_or s p false in
    let whole = range_head f from (length s - from) q head in
    let bounds = range_within f from (length s - from) 0 (subst (λ (xs : List ℕ). 0 < length xs) (sym whole) (omega arith)) in
    let here : get_or (filter f (range_with_len from (length s - from))) 0 0 ≡ q = ap (λ (xs : List ℕ). get_or xs 0 0) whole in
    let left : from + (length s - from) - (q + 1) ≡ length s - (q + 1) = omega (arith, bounds.0, bounds.1, here) in
    whole ∙ ap (λ n. q ∷ filter f (range_with_len (q + 1) n)) left

-- No process is left where there is no first.
pub no_first : (xs : List ℕ) (b : Bool) → is_some (slice_get xs 0) ≡ not b → IsTrue b ↔ (xs ≡ [])
no_first [] true e = (λ _. refl, λ _. refl)
no_first [] false e = absurd (false≢true e)
no_first (x ∷ xs) true e = absurd (false≢true (sym e))
no_first (x ∷ xs) false e = (λ t. absurd (false≢true t), λ h. cc)

-- all do
range_passes : (f : ℕ → Bool) (a n : ℕ) → ((k : ℕ) → a ≤ k → k < a + n → f k ≡ true) → filter f (range_with_len a n) ≡ range_with_len a n
range_passes f a zero all = refl
range_passes f a (suc n) all =
    cond-true (f a) (a ∷ filter f (range_with_len (a + 1) n)) (filter f (range_with_len (a + 1) n)) (all a (omega arith) (omega arith))
    ∙ ap (λ ks. a ∷ ks) (range_passes f (a + 1) n (λ k l m. all k (omega (arith, l)) (omega (arith, m))))

-- the members of the set of all
pub all_members : (n : ℕ) → processes_in (replicate n true) ≡ range_with_len 0 n
all_members n =
    ap (λ m. filter (λ p. get_or (replicate n true) p false) (range_with_len 0 m)) (length-replicate n true)
    ∙ range_passes (λ p. get_or (replicate n true) p false) 0 n (λ k low high. get_or-replicate n k true false (omega (arith, high)))
