-- The words of a matrix product, one by one.
use Rattle.std.proofs.Common.{◌≡◌, ◌+◌, ◌*◌, ◌++◌, ◌∷◌, [], ℕ, List, length, drop, ◌∙◌, arith, min, take, length-drop}
use Rattle.std.proofs.lemmas.List.{nil_from_length}
use Rattle.std.proofs.lemmas.List.FromFn.{map-range_with_len_more, length-map-range_with_len}
use Rattle.std.proofs.lemmas.Slice.Zip.{length-zip}
use Rattle.std.specs.List.{zip}
use Rattle.bsp_programs.specs.MatVec.{inner_product, product_of}

-- the next inner product
pub product_of-more : (i n : ℕ) (matrix vector : List ℕ) → product_of (i + 1) n matrix vector ≡ product_of i n matrix vector ++ inner_product (take n (drop (i * n) matrix)) vector ∷ []
product_of-more i n matrix vector = map-range_with_len_more (λ k. inner_product (take n (drop (k * n) matrix)) vector) 0 i i (omega arith)

-- where the shorter list ends, no pairs are left
pub zip-past : (xs ys : List ℕ) (n : ℕ) → n ≡ min (length xs) (length ys) → zip (drop n xs) (drop n ys) ≡ []
zip-past xs ys n h =
    nil_from_length (zip (drop n xs) (drop n ys)) (length-zip (drop n xs) (drop n ys) ∙ simp length-drop (omega arith))

pub length-product_of : (b n : ℕ) (matrix vector : List ℕ) → length (product_of b n matrix vector) ≡ b
length-product_of b n matrix vector = length-map-range_with_len (λ k. inner_product (take n (drop (k * n) matrix)) vector) 0 b
