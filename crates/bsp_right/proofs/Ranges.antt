-- Lists with a member for each number of a range.
use Rattle.std.proofs.Common.{◌+◌, ◌++◌, ◌<◌, Bool, List, [], ap, arith, false, map, refl, suc, true, zero, ℕ, ◌∙◌, ◌∷◌, ◌≡◌, ◌≤◌}
use Rattle.std.specs.List.{flat_map, list_all, list_any, range_with_len}

-- what g gives of each member, described by its number
pub map_range-agree : {X Y : Type 0} (g : X → Y) (f : ℕ → X) (h : ℕ → Y) (n a : ℕ) → ((p : ℕ) → a ≤ p → p < a + n → g (f p) ≡ h p) → map g (map f (range_with_len a n)) ≡ map h (range_with_len a n)
map_range-agree g f h zero a e = refl
map_range-agree g f h (suc n) a e =
    ap (λ z. z ∷ map g (map f (range_with_len (a + 1) n))) (e a (omega arith) (omega arith))
    ∙ ap (λ zs. h a ∷ zs) (map_range-agree g f h n (a + 1) (λ p l m. e p (omega arith) (omega arith)))

-- where g gives the same of each
pub map_range-const : {X Y : Type 0} (g : X → Y) (f : ℕ → X) (y : Y) (n a : ℕ) → ((p : ℕ) → a ≤ p → p < a + n → g (f p) ≡ y) → map g (map f (range_with_len a n)) ≡ map (λ p. y) (range_with_len a n)
map_range-const g f y n a h = map_range-agree g f (λ p. y) n a h

pub range-agree : {Y : Type 0} (f h : ℕ → Y) (n a : ℕ) → ((p : ℕ) → a ≤ p → p < a + n → f p ≡ h p) → map f (range_with_len a n) ≡ map h (range_with_len a n)
range-agree f h zero a e = refl
range-agree f h (suc n) a e =
    ap (λ z. z ∷ map f (range_with_len (a + 1) n)) (e a (omega arith) (omega arith))
    ∙ ap (λ zs. h a ∷ zs) (range-agree f h n (a + 1) (λ p l m. e p (omega arith) (omega arith)))

-- the same of two ranges, side by side
pub range-shifted : {Y : Type 0} (f h : ℕ → Y) (n a b : ℕ) → ((j : ℕ) → j < n → f (a + j) ≡ h (b + j)) → map f (range_with_len a n) ≡ map h (range_with_len b n)
range-shifted f h zero a b e = refl
range-shifted f h (suc n) a b e =
    let from : a ≡ a + 0 = omega arith in
    let to : b + 0 ≡ b = omega arith in
    let first : f a ≡ h b = ap f from ∙ e 0 (omega arith) ∙ ap h to in
    let later : map f (range_with_len (a + 1) n) ≡ map h (range_with_len (b + 1) n) =
    range-shifted f h n (a + 1) (b + 1) (λ j l. (let there : a + 1 + j ≡ a + (j + 1) = omega arith in let here : b + (j + 1) ≡ b + 1 + j = omega arith in ap f there ∙ e (j + 1) (omega arith) ∙ ap h here)) in
    λ i. first i ∷ later i

pub any_range-none : {X : Type 0} (test : X → Bool) (f : ℕ → X) (n a : ℕ) → ((p : ℕ) → a ≤ p → p < a + n → test (f p) ≡ false) → list_any test (map f (range_with_len a n)) ≡ false
any_range-none test f zero a h = refl
any_range-none test f (suc n) a h =
    let here : test (f a) ≡ false = h a (omega arith) (omega arith) in
    let later : list_any test (map f (range_with_len (a + 1) n)) ≡ false = any_range-none test f n (a + 1) (λ p l m. h p (omega arith) (omega arith)) in
    grind (arith, here, later)

pub any_range-first : {X : Type 0} (test : X → Bool) (f : ℕ → X) (n a : ℕ) → 1 ≤ n → test (f a) ≡ true → list_any test (map f (range_with_len a n)) ≡ true
any_range-first test f zero a l h = absurd (omega arith)
any_range-first test f (suc n) a l h = grind (arith, h)

pub all_range : {X : Type 0} (test : X → Bool) (f : ℕ → X) (n a : ℕ) → ((p : ℕ) → a ≤ p → p < a + n → test (f p) ≡ true) → list_all test (map f (range_with_len a n)) ≡ true
all_range test f zero a h = refl
all_range test f (suc n) a h =
    let here : test (f a) ≡ true = h a (omega arith) (omega arith) in
    let later : list_all test (map f (range_with_len (a + 1) n)) ≡ true = all_range test f n (a + 1) (λ p l m. h p (omega arith) (omega arith)) in
    grind (arith, here, later)

pub flat_map-none : {X Y : Type 0} (f : X → List Y) (g : ℕ → X) (rest : List X) (n a : ℕ) → ((j : ℕ) → a ≤ j → j < a + n → f (g j) ≡ []) → flat_map f (map g (range_with_len a n) ++ rest) ≡ flat_map f rest
flat_map-none f g rest zero a h = refl
flat_map-none f g rest (suc n) a h =
    ap (λ ys. ys ++ flat_map f (map g (range_with_len (a + 1) n) ++ rest)) (h a (omega arith) (omega arith)) ∙ flat_map-none f g rest n (a + 1) (λ j l m. h j (omega arith) (omega arith))
