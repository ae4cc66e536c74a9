-- What the tests at the end of a superstep find, and what the next table keeps.
use Rattle.std.proofs.Common.{◌≡◌, ◌≢◌, ◌≤◌, ◌<◌, ◌+◌, ◌-◌, ℕ, zero, suc, Bool, true, false, cond, Option, None, Some, List, [], ◌∷◌, ◌++◌, ◌==◌, ◌||◌, ◌&&◌, not, nat_lt, nat_eq, if◌then◌else◌, length, map, filter, All, refl, sym, ap, ◌∙◌, arith, get_or, subst, inl, inr, zero-add}
use Rattle.std.specs.Prelude.{AllPairs}
use Rattle.std.specs.Bool.{OnTrue}
use Rattle.std.specs.List.{list_any, list_all, range_with_len}
use Rattle.std.specs.Cmp.Lexicographic.{pointwise}
use Rattle.std.proofs.lemmas.Bool.{and_parts, eq-eqb, ne_eqb, eqb-true, cases_eq, ltb-false, OnTrue_at, true_from_ne_false, false≢true}
use Rattle.std.proofs.lemmas.Bool.Decides.{Decides-eqb}
use Rattle.std.proofs.lemmas.Slice.Eq.{slice_eq-Decides}
use Rattle.std.proofs.lemmas.List.{length-map, length-append, map-id, map-append, append-nil, get_or-map, get_or_default}
use Rattle.std.proofs.lemmas.List.Filters.{length-filter_both}
use Rattle.std.proofs.lemmas.List.Folds.{list_any_none, list_all-map, list_all_at}
use Rattle.std.proofs.lemmas.List.Sums.{list_all-from_AllPass}
use Rattle.std.proofs.lemmas.List.Elements.{filter_agree, filter-append, All-nil, All-cons, All-tail, All-map, All-filter, All-append}
use Rattle.std.proofs.lemmas.List.FromFn.{fill_by_all, length-range_with_len, get_or-range_with_len, length-map-range_with_len, map-range_with_len_more}
use Rattle.bsp_model.specs.Limits.{most_slots}
use Rattle.bsp_model.specs.declared.fault.SyncFault.{SyncFault}
use Rattle.bsp_model.specs.declared.fault.SyncFault.TheVariants.{PopMismatch, PushMismatch, TooManySlots}
use Rattle.bsp_table.specs.declared.area.Area.{Area}
use Rattle.bsp_table.specs.NextTable.{is_popped, kept_slots, are_alike, count_of_pushes, pushed_slot, pushed_slots, next_table, table_fault, no_area, AreSlots, AreFull, IsSlotInside, AreSlotsInside, ArePushesInside, AreWithin, AreSlotsWithin}

same_numbers : (xs ys : List ℕ) → pointwise nat_eq xs ys ≡ true → xs ≡ ys
same_numbers xs ys h = (slice_eq-Decides Decides-eqb xs ys _ refl).0 h

pub same_itself : (xs : List ℕ) → pointwise nat_eq xs xs ≡ true
same_itself xs = (slice_eq-Decides Decides-eqb xs xs _ refl).1 refl

-- the first may be compared with itself too
pub are_alike-map : {X Y : Type 0} (same : Y → Y → Bool) (f : X → Y) (all : List X) (x : X) → 1 ≤ length all → x ≡ get_or all 0 x → same (f x) (f x) ≡ true → are_alike same (map f all) ≡ list_all (λ r. same (f x) (f r)) all
are_alike-map same f [] x l e h = absurd (omega arith)
are_alike-map same f (y ∷ ys) x l e h =
    list_all-map (same (f y)) f ys ∙ ap (λ z. list_all (λ r. same (f z) (f r)) ys) (sym e)
    ∙ ap (λ b. b && list_all (λ r. same (f x) (f r)) ys) (sym h)
    ∙ ap (λ z. same (f x) (f z) && list_all (λ r. same (f x) (f r)) ys) e

-- where none differs from the first
pub are_alike_all : {X : Type 0} (same : X → X → Bool) (xs : List X) (d : X) → ((k : ℕ) → k < length xs → 1 ≤ k → same (get_or xs 0 d) (get_or xs k d) ≡ true) → are_alike same xs ≡ true
are_alike_all same [] d h = refl
are_alike_all same (x ∷ xs) d h = list_all-from_AllPass (same x) xs (λ k e l. ap (same x) (get_or_default xs k e d l) ∙ h (suc k) (omega arith) (omega arith))

pub count_of_pushes-first : (pushes : List (List Area)) → count_of_pushes pushes ≡ length (get_or pushes 0 [])
count_of_pushes-first [] = refl
count_of_pushes-first (pushed ∷ others) = refl

abbrev same_length : List Area → List Area → Bool
same_length p q = length p == length q

-- the first test that fails
abbrev first_fault : Bool → Bool → Bool → Option SyncFault
first_fault same_pops same_counts over = if not same_pops then Some PopMismatch else (if not same_counts then Some PushMismatch else (if over then Some TooManySlots else None))

pub pop_mismatch : (slots : List (List Area)) (pops : List (List ℕ)) (pushes : List (List Area)) → are_alike (pointwise nat_eq) pops ≡ false → Some PopMismatch ≡ table_fault slots pops pushes
pop_mismatch slots pops pushes h = ap (λ b. first_fault b (are_alike same_length pushes) (nat_lt most_slots (length (kept_slots slots pops) + count_of_pushes pushes))) (sym h)

pub push_mismatch : (slots : List (List Area)) (pops : List (List ℕ)) (pushes : List (List Area)) → are_alike (pointwise nat_eq) pops ≡ true → are_alike same_length pushes ≡ false → Some PushMismatch ≡ table_fault slots pops pushes
push_mismatch slots pops pushes h k = λ i. first_fault (sym h i) (sym k i) (nat_lt most_slots (length (kept_slots slots pops) + count_of_pushes pushes))

-- where all popped the same, a slot is popped where the first popped it
is_popped-alike : (popped : List ℕ) (others : List (List ℕ)) (slot : ℕ) → list_all (pointwise nat_eq popped) others ≡ true → is_popped (popped ∷ others) slot ≡ is_popped (popped ∷ []) slot
is_popped-alike popped [] slot h = refl
is_popped-alike popped (p ∷ ps) slot h =
    ap (λ ks. is_popped (popped ∷ ks ∷ ps) slot) (sym (same_numbers popped p (and_parts _ _ h).0))
    ∙ elim (list_any (λ k. k == slot) popped) as (λ b. (b || (b || is_popped ps slot)) ≡ (b || is_popped ps slot)) [ true ↦ refl | false ↦ refl ]
    ∙ is_popped-alike popped ps slot (and_parts _ _ h).1

kept_slots-alike : (slots : List (List Area)) (pops : List (List ℕ)) → 1 ≤ length pops → are_alike (pointwise nat_eq) pops ≡ true → kept_slots slots pops ≡ kept_slots slots (get_or pops 0 [] ∷ [])
kept_slots-alike slots [] l h = absurd (omega arith)
kept_slots-alike slots (p ∷ ps) l h =
    ap (map (λ slot. get_or slots slot []))
    (filter_agree (λ slot. not (is_popped (p ∷ ps) slot)) (λ slot. not (is_popped (p ∷ []) slot)) (λ slot. ap not (is_popped-alike p ps slot h)) (range_with_len 0 (length slots)))

abbrev count : (ℕ → Bool) → List ℕ → ℕ
count p xs = length (filter p xs)

count_cons : (p : ℕ → Bool) (x : ℕ) (xs : List ℕ) → count p (x ∷ xs) ≡ cond (p x) 1 0 + count p xs
count_cons p x xs = elim (p x) as (λ b. length (cond b (x ∷ filter p xs) (filter p xs)) ≡ cond b 1 0 + count p xs) [ true ↦ omega arith | false ↦ omega arith ]

count_yes : (p : ℕ → Bool) (x : ℕ) (xs : List ℕ) → p x ≡ true → count p (x ∷ xs) ≡ 1 + count p xs
count_yes p x xs h = count_cons p x xs ∙ ap (λ b. cond b 1 0 + count p xs) h

count_no : (p : ℕ → Bool) (x : ℕ) (xs : List ℕ) → p x ≡ false → count p (x ∷ xs) ≡ count p xs
count_no p x xs h = count_cons p x xs ∙ ap (λ b. cond b 1 0 + count p xs) h ∙ omega arith

-- two tests that never both pass
count_or : (p q : ℕ → Bool) → ((s : ℕ) → p s ≡ true → q s ≡ false) → (xs : List ℕ) → count (λ s. p s || q s) xs ≡ count p xs + count q xs
count_or p q apart [] = refl
count_or p q apart (x ∷ xs) =
    let both : (b c : Bool) → (b ≡ true → c ≡ false) → cond (b || c) 1 0 ≡ cond b 1 0 + cond c 1 0 = λ b c. elim b as (λ b. (b ≡ true → c ≡ false) → cond (b || c) 1 0 ≡ cond b 1 0 + cond c 1 0) [
      | true ↦ λ h. ap (λ v. 1 + cond v 1 0) (sym (h refl))
      | false ↦ λ h. omega arith
    ] in
    omega (arith, both (p x) (q x) (apart x), count_or p q apart xs, count_cons (λ s. p s || q s) x xs, count_cons p x xs, count_cons q x xs)

count_none : (xs : List ℕ) → count (λ s. false) xs ≡ 0
count_none [] = refl
count_none (x ∷ xs) = count_none xs

-- a number stands once in a range, or not at all
count_before : (x a n : ℕ) → x < a → count (λ s. x == s) (range_with_len a n) ≡ 0
count_before x a zero h = refl
count_before x a (suc n) h = count_no (λ s. x == s) a (range_with_len (a + 1) n) (ne_eqb x a (λ e. omega arith)) ∙ count_before x (a + 1) n (omega arith)

count_one : (x a n : ℕ) → a ≤ x → x < a + n → count (λ s. x == s) (range_with_len a n) ≡ 1
count_one x a zero h k = absurd (omega arith)
count_one x a (suc n) h k =
    elim (cases_eq x a) [
      | inl e ↦ count_yes (λ s. x == s) a (range_with_len (a + 1) n) (eq-eqb x a e) ∙ ap (λ m. 1 + m) (count_before x (a + 1) n (omega arith))
      | inr e ↦ count_no (λ s. x == s) a (range_with_len (a + 1) n) (ne_eqb x a e) ∙ count_one x (a + 1) n (omega arith) (omega arith)
    ]

count_popped : (popped : List ℕ) (n : ℕ) → All (λ s. s < n) popped → AllPairs (λ j k. j ≢ k) popped → count (λ slot. list_any (λ k. k == slot) popped) (range_with_len 0 n) ≡ length popped
count_popped [] n within distinct = count_none (range_with_len 0 n)
count_popped (x ∷ ps) n within distinct =
    let lt : x < n = within 0 x (omega arith) in
    let apart : (s : ℕ) → (x == s) ≡ true → list_any (λ k. k == s) ps ≡ false = λ s e. list_any_none (λ k. k == s) ps (λ k d l. ne_eqb (get_or ps k d) s (λ same. distinct 0 (suc k) d (omega arith) (omega arith) (eqb-true x s e ∙ sym same))) in
    count_or (λ s. x == s) (λ s. list_any (λ k. k == s) ps) apart (range_with_len 0 n)
    ∙ omega (arith, count_one x 0 n (omega arith) (omega arith), count_popped ps n (All-tail (λ s. s < n) x ps within) (λ i j d h l. distinct (suc i) (suc j) d (omega arith) (omega arith)))

-- each popped slot is one slot less
pub length-kept_slots : (slots : List (List Area)) (popped : List ℕ) → AreSlots slots popped → length (kept_slots slots (popped ∷ [])) + length popped ≡ length slots
length-kept_slots slots popped h =
    let n = length slots in
    let p : ℕ → Bool = is_popped (popped ∷ []) in
    let once : (s : ℕ) → p s ≡ list_any (λ k. k == s) popped = λ s. elim (list_any (λ k. k == s) popped) as (λ b. (b || false) ≡ b) [ true ↦ refl | false ↦ refl ] in
    let kept : length (kept_slots slots (popped ∷ [])) ≡ length (filter (λ s. not (p s)) (range_with_len 0 n)) = length-map (filter (λ s. not (p s)) (range_with_len 0 n)) (λ slot. get_or slots slot []) in
    let gone : length (filter p (range_with_len 0 n)) ≡ length popped =
    ap length (filter_agree p (λ s. list_any (λ k. k == s) popped) once (range_with_len 0 n)) ∙ count_popped popped n h.each h.distinct in
    omega (arith, kept, gone, length-filter_both p (λ s. not (p s)) (λ s. refl) (range_with_len 0 n), length-range_with_len 0 n)

-- the third test as it is made, by the first process
pub by_size : (slots : List (List Area)) (pops : List (List ℕ)) (pushes : List (List Area)) (over : Bool) → 1 ≤ length pops → AreSlots slots (get_or pops 0 [])
    → are_alike (pointwise nat_eq) pops ≡ true → are_alike same_length pushes ≡ true → nat_lt most_slots (length slots - length (get_or pops 0 []) + length (get_or pushes 0 [])) ≡ over
    → first_fault true true over ≡ table_fault slots pops pushes
by_size slots pops pushes over l here h k t =
    let size : length (kept_slots slots pops) + count_of_pushes pushes ≡ length slots - length (get_or pops 0 []) + length (get_or pushes 0 []) =
    omega (arith, ap length (kept_slots-alike slots pops l h), length-kept_slots slots (get_or pops 0 []) here, count_of_pushes-first pushes) in
    λ i. first_fault (sym h i) (sym k i) (sym (ap (nat_lt most_slots) size ∙ t) i)

range_more : (n : ℕ) → range_with_len 0 (n + 1) ≡ range_with_len 0 n ++ n ∷ []
range_more n = sym (map-id (range_with_len 0 (n + 1))) ∙ map-range_with_len_more (λ (x : ℕ). x) 0 n n (omega arith) ∙ ap (λ xs. xs ++ n ∷ []) (map-id (range_with_len 0 n))

-- one number more is kept or not
filtered_more : {X : Type 0} (f : ℕ → X) (p : ℕ → Bool) (n : ℕ) → map f (filter p (range_with_len 0 (n + 1))) ≡ map f (filter p (range_with_len 0 n)) ++ map f (cond (p n) (n ∷ []) [])
filtered_more f p n =
    ap (λ xs. map f (filter p xs)) (range_more n) ∙ ap (map f) (filter-append p (range_with_len 0 n) (n ∷ []))
    ∙ map-append f (filter p (range_with_len 0 n)) (cond (p n) (n ∷ []) [])

pub kept_more : {X : Type 0} (f : ℕ → X) (p : ℕ → Bool) (n : ℕ) → p n ≡ true → map f (filter p (range_with_len 0 (n + 1))) ≡ map f (filter p (range_with_len 0 n)) ++ f n ∷ []
kept_more f p n h = filtered_more f p n ∙ ap (λ b. map f (filter p (range_with_len 0 n)) ++ map f (cond b (n ∷ []) [])) h

pub kept_same : {X : Type 0} (f : ℕ → X) (p : ℕ → Bool) (n : ℕ) → p n ≡ false → map f (filter p (range_with_len 0 (n + 1))) ≡ map f (filter p (range_with_len 0 n))
kept_same f p n h = filtered_more f p n ∙ ap (λ b. map f (filter p (range_with_len 0 n)) ++ map f (cond b (n ∷ []) [])) h ∙ append-nil (map f (filter p (range_with_len 0 n)))

pub is_popped-one : (popped : List ℕ) (slot : ℕ) → is_popped (popped ∷ []) slot ≡ list_any (λ k. k == slot) popped
is_popped-one popped slot = elim (list_any (λ k. k == slot) popped) as (λ b. (b || false) ≡ b) [ true ↦ refl | false ↦ refl ]

-- what no fault says of the tests
no_fault : (b c d : Bool) → first_fault b c d ≡ None → (b ≡ true) × (c ≡ true) × (d ≡ false)
no_fault true true true h = cc
no_fault true true false h = (refl, refl, refl)
no_fault true false d h = cc
no_fault false c d h = cc

tests_of : (slots : List (List Area)) (pops : List (List ℕ)) (pushes : List (List Area)) → table_fault slots pops pushes ≡ None
    → (are_alike (pointwise nat_eq) pops ≡ true) × (are_alike same_length pushes ≡ true) × (nat_lt most_slots (length (kept_slots slots pops) + count_of_pushes pushes) ≡ false)
tests_of slots pops pushes h = no_fault (are_alike (pointwise nat_eq) pops) (are_alike same_length pushes) (nat_lt most_slots (length (kept_slots slots pops) + count_of_pushes pushes)) h

passes_at : {X : Type 0} (p : X → Bool) (xs : List X) (k : ℕ) (d : X) → list_all p xs ≡ true → k < length xs → p (get_or xs k d) ≡ true
passes_at p xs k d h l = true_from_ne_false (p (get_or xs k d)) (λ e. false≢true (sym (list_all_at p xs k d l e) ∙ h))

same_counts : (pushes : List (List Area)) → are_alike same_length pushes ≡ true → All (λ pushed. length pushed ≡ count_of_pushes pushes) pushes
same_counts [] h = All-nil (λ pushed. length pushed ≡ count_of_pushes [])
same_counts (p ∷ ps) h =
    All-cons (λ pushed. length pushed ≡ length p) p ps refl (λ k d l. sym (eqb-true (length p) (length (get_or ps k d)) (passes_at (same_length p) ps k d h l)))

-- where there is no fault, all pushed as many areas
pub count_of_each : (slots : List (List Area)) (pops : List (List ℕ)) (pushes : List (List Area)) → table_fault slots pops pushes ≡ None → All (λ pushed. length pushed ≡ count_of_pushes pushes) pushes
count_of_each slots pops pushes h = same_counts pushes (tests_of slots pops pushes h).1

pub kept_of_first : (slots : List (List Area)) (pops : List (List ℕ)) (pushes : List (List Area)) → 1 ≤ length pops → table_fault slots pops pushes ≡ None → kept_slots slots pops ≡ kept_slots slots (get_or pops 0 [] ∷ [])
kept_of_first slots pops pushes l h = kept_slots-alike slots pops l (tests_of slots pops pushes h).0

-- what holds of each slot that stood and of each slot that comes
All-kept_slots : (P : List Area → Type 0) (slots : List (List Area)) (pops : List (List ℕ)) → All P slots → All P (kept_slots slots pops)
All-kept_slots P slots pops h =
    let p : ℕ → Bool = λ slot. not (is_popped pops slot) in
    All-map P (λ slot. get_or slots slot []) (filter p (range_with_len 0 (length slots)))
    (All-filter p (λ slot. P (get_or slots slot [])) (range_with_len 0 (length slots))
    (λ k d l. let lt : k < length slots = omega (arith, length-range_with_len 0 (length slots)) in
    subst (λ n. P (get_or slots n [])) (sym (get_or-range_with_len 0 (length slots) k d lt ∙ zero-add k)) (h k [] lt)))

All-pushed_slots : (P : List Area → Type 0) (pushes : List (List Area)) → ((k : ℕ) → k < count_of_pushes pushes → P (pushed_slot pushes k)) → All P (pushed_slots pushes)
All-pushed_slots P pushes h =
    let n = count_of_pushes pushes in
    All-map P (pushed_slot pushes) (range_with_len 0 n)
    (λ k d l. let lt : k < n = omega (arith, length-range_with_len 0 n) in
    subst (λ m. P (pushed_slot pushes m)) (sym (get_or-range_with_len 0 n k d lt ∙ zero-add k)) (h k lt))

All-next_table : (P : List Area → Type 0) (slots : List (List Area)) (pops : List (List ℕ)) (pushes : List (List Area)) → All P slots → ((k : ℕ) → k < count_of_pushes pushes → P (pushed_slot pushes k)) → All P (next_table slots pops pushes)
All-next_table P slots pops pushes h k = All-append P (kept_slots slots pops) (pushed_slots pushes) (All-kept_slots P slots pops h) (All-pushed_slots P pushes k)

pub full_after : (n : ℕ) (slots : List (List Area)) (pops : List (List ℕ)) (pushes : List (List Area)) → AreFull n slots → length pushes ≡ n → AreFull n (next_table slots pops pushes)
full_after n slots pops pushes h e =
    All-next_table (λ areas. length areas ≡ n) slots pops pushes h (λ k l. length-map pushes (λ pushed. get_or pushed k no_area) ∙ e)

pub few_after : (slots : List (List Area)) (pops : List (List ℕ)) (pushes : List (List Area)) → table_fault slots pops pushes ≡ None → length (next_table slots pops pushes) ≤ most_slots
few_after slots pops pushes h =
    omega (arith, length-append (kept_slots slots pops) (pushed_slots pushes), length-map-range_with_len (pushed_slot pushes) 0 (count_of_pushes pushes), ltb-false _ _ (tests_of slots pops pushes h).2)

pub inside_after : (sizes : List ℕ) (slots : List (List Area)) (pops : List (List ℕ)) (pushes : List (List Area)) → table_fault slots pops pushes ≡ None
    → AreSlotsInside sizes slots → ArePushesInside sizes pushes → AreSlotsInside sizes (next_table slots pops pushes)
inside_after sizes slots pops pushes none h into =
    All-next_table (IsSlotInside sizes) slots pops pushes h (λ k l p within.
    let there : p < length pushes = omega (arith, length-map pushes (λ pushed. get_or pushed k no_area)) in
    let each : length (get_or pushes p []) ≡ count_of_pushes pushes = count_of_each slots pops pushes none p [] there in
    subst (λ (a : Area). a.start + a.len ≤ get_or sizes p 0) (sym (get_or-map (λ pushed. get_or pushed k no_area) pushes p [] no_area there)) (into p k there (omega arith)))

pub within_after : (bound : ℕ) (slots : List (List Area)) (pops : List (List ℕ)) (pushes : List (List Area)) → table_fault slots pops pushes ≡ None
    → AreSlotsWithin bound slots → All (AreWithin bound) pushes → AreSlotsWithin bound (next_table slots pops pushes)
within_after bound slots pops pushes none h into =
    All-next_table (AreWithin bound) slots pops pushes h (λ k l.
    All-map (λ (a : Area). a.start + a.len ≤ bound) (λ pushed. get_or pushed k no_area) pushes
    (λ p d there.
    let each : length (get_or pushes p d) ≡ count_of_pushes pushes = count_of_each slots pops pushes none p d there in
    into p d there k no_area (omega arith)))

-- lists without items are alike
pub alike_where_none : {X : Type 0} (same : List X → List X → Bool) (all : List (List X)) (nothing : Bool) → same [] [] ≡ true → nothing ≡ true → OnTrue nothing (All (λ x. x ≡ []) all) → true ≡ are_alike same all
alike_where_none same all nothing alike is none =
    let empty : All (λ x. x ≡ []) all = OnTrue_at is none in
    sym (are_alike_all same all [] (λ k l some. ap (λ first. same first (get_or all k [])) (empty 0 [] (omega arith)) ∙ ap (same []) (empty k [] l) ∙ alike))

filter_all : (ks : List ℕ) → filter (λ _. true) ks ≡ ks
filter_all [] = refl
filter_all (k ∷ ks) = ap (λ js. k ∷ js) (filter_all ks)

first_empty : (pushes : List (List Area)) → All (λ pushed. pushed ≡ []) pushes → count_of_pushes pushes ≡ 0
first_empty [] none = refl
first_empty (pushed ∷ others) none = ap length (none 0 [] (omega arith))

-- Without pops and pushes the table stays as it is.
pub unchanged : (slots : List (List Area)) (pops : List (List ℕ)) (pushes : List (List Area)) → 1 ≤ length pops → table_fault slots pops pushes ≡ None
    → All (λ popped. popped ≡ []) pops → All (λ pushed. pushed ≡ []) pushes → slots ≡ next_table slots pops pushes
unchanged slots pops pushes some faultless no_pops no_pushes =
    let all : ℕ → List Area = λ slot. get_or slots slot [] in
    let kept : kept_slots slots pops ≡ slots =
    kept_of_first slots pops pushes some faultless
    ∙ ap (λ (popped : List ℕ). kept_slots slots (popped ∷ [])) (no_pops 0 [] (omega (arith, some)))
    ∙ ap (map all) (filter_all (range_with_len 0 (length slots)))
    ∙ sym (fill_by_all all slots (length slots) [] refl (λ k l. refl)) in
    sym ((λ i. kept i ++ map (pushed_slot pushes) (range_with_len 0 (first_empty pushes no_pushes i))) ∙ append-nil slots)
