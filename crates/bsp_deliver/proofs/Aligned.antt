-- Lists of requests that are addressed alike from place to place.
use Rattle.std.proofs.Common.{◌≡◌, ℕ, ◌==◌, Bool, true, false, cond, List, [], ◌∷◌, ◌++◌, map, filter, take, drop, length, refl, sym, ◌∙◌, ap, arith}
use Rattle.std.specs.Prelude.{◌↔◌}
use Rattle.std.proofs.lemmas.List.{take-append-drop}
use Rattle.std.proofs.lemmas.List.Elements.{filter-append}

-- lists that are equal, taken apart at one place
append_apart : {X : Type 0} (xs ys us vs : List X) → length xs ≡ length ys → xs ++ us ≡ ys ++ vs → (xs ≡ ys) × (us ≡ vs)
append_apart [] [] us vs l e = (refl, e)
append_apart [] (y ∷ ys) us vs l e = absurd (omega (arith, l))
append_apart (x ∷ xs) [] us vs l e = absurd (omega (arith, l))
append_apart (x ∷ xs) (y ∷ ys) us vs l e =
    let head : x ≡ y = cc in
    let tail : xs ++ us ≡ ys ++ vs = cc in
    let rest = append_apart xs ys us vs (omega (arith, l)) tail in
    (λ i. head i ∷ rest.0 i, rest.1)

count_more : {X : Type 0} (b : Bool) (x y : X) (xs ys : List X) → length xs ≡ length ys → length (cond b (x ∷ xs) xs) ≡ length (cond b (y ∷ ys) ys)
count_more true x y xs ys e = omega (arith, e)
count_more false x y xs ys e = e

-- Lists that are addressed alike have as many requests to each process.
aligned_count : {X : Type 0} (to : X → ℕ) (d : ℕ) (xs ys : List X) → map to xs ≡ map to ys → length (filter (λ r. to r == d) xs) ≡ length (filter (λ r. to r == d) ys)
aligned_count to d [] [] e = refl
aligned_count to d [] (y ∷ ys) e = absurd (let n : 0 ≡ length (map to (y ∷ ys)) = ap (λ (ns : List ℕ). length ns) e in omega arith)
aligned_count to d (x ∷ xs) [] e = absurd (let n : length (map to (x ∷ xs)) ≡ 0 = ap (λ (ns : List ℕ). length ns) e in omega arith)
aligned_count {X = X} to d (x ∷ xs) (y ∷ ys) e =
    let head : to x ≡ to y = cc in
    let tail : map to xs ≡ map to ys = cc in
    let rest : List X → List X = filter (λ (r : X). to r == d) in
    ap (λ n. length (cond (n == d) (x ∷ rest xs) (rest xs))) head ∙ count_more (to y == d) x y (rest xs) (rest ys) (aligned_count to d xs ys tail)

parted : {X : Type 0} (q : X → Bool) (n : ℕ) (xs : List X) → filter q xs ≡ filter q (take n xs) ++ filter q (drop n xs)
parted q n xs = ap (filter q) (sym (take-append-drop n xs)) ∙ filter-append q (take n xs) (drop n xs)

-- Lists whose first n requests are addressed alike have the same requests to d where the first n and the others have.
pub aligned_apart : {X : Type 0} (to : X → ℕ) (d n : ℕ) (xs ys : List X) → map to (take n xs) ≡ map to (take n ys)
    → (filter (λ r. to r == d) xs ≡ filter (λ r. to r == d) ys) ↔ (filter (λ r. to r == d) (take n xs) ≡ filter (λ r. to r == d) (take n ys)) × (filter (λ r. to r == d) (drop n xs) ≡ filter (λ r. to r == d) (drop n ys))
aligned_apart {X = X} to d n xs ys alike =
    let q : X → Bool = λ r. to r == d in (
      λ e.
          append_apart (filter q (take n xs)) (filter q (take n ys)) (filter q (drop n xs)) (filter q (drop n ys)) (aligned_count to d (take n xs) (take n ys) alike)
          (sym (parted q n xs) ∙ e ∙ parted q n ys),
      λ both. parted q n xs ∙ (λ i. both.0 i ++ both.1 i) ∙ sym (parted q n ys),
    )
