-- Words in parts, one after the other.
use Rattle.std.proofs.Common.{◌≡◌, ◌+◌, ◌∙◌, ℕ, zero, suc, List, [], ◌∷◌, drop, take, ap, refl, arith}
use Rattle.std.specs.List.{slice_index, sum}
use Rattle.std.proofs.lemmas.List.{drop-drop}
use Rattle.std.proofs.lemmas.List.Sums.{sum_by-cons}

sum-more : (lengths : List ℕ) (k : ℕ) → sum (take (suc k) lengths) ≡ sum (take k lengths) + slice_index lengths k
sum-more [] zero = refl
sum-more [] (suc k) = refl
sum-more (len ∷ lengths) zero = sum_by-cons (λ (x : ℕ). x) len [] ∙ omega arith
sum-more (len ∷ lengths) (suc k) =
    omega (arith, sum_by-cons (λ (x : ℕ). x) len (take (suc k) lengths), sum_by-cons (λ (x : ℕ). x) len (take k lengths), sum-more lengths k)

-- behind part k lie the parts after it
pub parts_left : (words lengths : List ℕ) (k : ℕ) → drop (slice_index lengths k) (drop (sum (take k lengths)) words) ≡ drop (sum (take (k + 1) lengths)) words
parts_left words lengths k =
    let next : sum (take k lengths) + slice_index lengths k ≡ sum (take (k + 1) lengths) = (let e : k + 1 ≡ suc k = omega arith in rw e (omega (arith, sum-more lengths k))) in
    drop-drop (slice_index lengths k) (sum (take k lengths)) words ∙ ap (λ n. drop n words) next
