-- Lists that are made by a function.
use Rattle.std.proofs.Common.{◌≡◌, ◌<◌, ℕ, ◌+◌, List, [], ◌∷◌, ◌++◌, map, All, refl, ap, ◌∙◌, arith}
use Rattle.std.specs.List.{range_with_len}
use Rattle.std.proofs.lemmas.List.FromFn.{map-range_with_len_more, length-range_with_len, get_or-range_with_len, fill_by_all, get_or-map-range_with_len, length-map-range_with_len}
use Rattle.bsp_deliver.specs.Requests.{each_below}

pub map_agree : {X Y : Type 0} (f g : X → Y) → ((x : X) → f x ≡ g x) → (xs : List X) → map f xs ≡ map g xs
map_agree f g h [] = refl
map_agree f g h (x ∷ xs) = ap (λ y. y ∷ map f xs) (h x) ∙ ap (λ ys. g x ∷ ys) (map_agree f g h xs)

pub map_same : {X : Type 0} (xs : List X) → map (λ x. x) xs ≡ xs
map_same [] = refl
map_same (x ∷ xs) = ap (λ ys. x ∷ ys) (map_same xs)

pub each_below_more : {X : Type 0} (f : ℕ → X) (n : ℕ) → each_below (n + 1) f ≡ each_below n f ++ f n ∷ []
each_below_more f n = map-range_with_len_more f 0 n n (omega arith)

-- the numbers below n are below n
pub range_below : (n : ℕ) → All (λ k. k < n) (range_with_len 0 n)
range_below n = λ k d l.
    let here : k < n = omega (arith, length-range_with_len 0 n) in
    omega (arith, get_or-range_with_len 0 n k d here)

-- functions that agree below n make the same list
pub each_below-agree : {X : Type 0} (n : ℕ) (f g : ℕ → X) → ((k : ℕ) → k < n → f k ≡ g k) → each_below n f ≡ each_below n g
each_below-agree n f g h =
    fill_by_all g (each_below n f) n (f 0) (length-map-range_with_len f 0 n) (λ k l. get_or-map-range_with_len f 0 n k k (f 0) l (omega arith) ∙ h k l)
