-- List ranking depends on the words at which it looks, and on no others.
use Rattle.std.proofs.Common.{◌≡◌, ℕ, ◌+◌, ◌%◌, ◌^◌, true, false, Some, List, [], ◌∷◌, refl, ap, sym, ◌∙◌, ◌==◌, nat_lt}
use Rattle.std.proofs.lemmas.Bool.{eqb-true}
use Rattle.std.specs.List.{slice_get, slice_set}
use Rattle.bsp_step.specs.ViewParts.{ViewParts}
use Rattle.bsp_step.specs.Act.{store, charge}
use Rattle.bsp_step.specs.Footprint.{IsFootprint}
use Rattle.bsp_step.specs.Plan.{after}
use Rattle.bsp_programs.specs.Doubling.{distance}
use Rattle.bsp_programs.specs.Rank.{rank_plan, rank_asking, rank_looks}
use Rattle.bsp_step.specs.Footprints.{if-alike, given_word-alike, slice_get-set_alike}
use Rattle.bsp_step.specs.Reads.{IsFootprint-of_reads}

rank_asking-alike : (v : ViewParts) (m n : List ℕ) → (nat_lt (distance v.step) v.nprocs ≡ true → slice_get m 0 ≡ slice_get n 0) → (nat_lt (distance v.step) v.nprocs ≡ false → slice_get m 1 ≡ slice_get n 1) → rank_asking v m ≡ rank_asking v n
rank_asking-alike v m n asks prints =
    if-alike (nat_lt (distance v.step) v.nprocs) _ _ _ _
    (λ near. given_word-alike (slice_get m 0) (slice_get n 0) _ _ (asks near) (λ x h. refl))
    (λ far. given_word-alike (slice_get m 1) (slice_get n 1) _ _ (prints far) (λ x h. refl))

-- a word that was stored at 0 is there after a store at 1
first_stored : (m : List ℕ) (x y z : ℕ) → slice_get m 2 ≡ Some z → slice_get (slice_set (slice_set m 0 x) 1 y) 0 ≡ Some x
first_stored [] x y z h = cc
first_stored (a ∷ m) x y z h = refl

rank_plan-alike : (v : ViewParts) (m n : List ℕ) → ((a : ℕ) → rank_looks v a ≡ true → slice_get m a ≡ slice_get n a) → rank_plan v m ≡ rank_plan v n
rank_plan-alike v m n same =
    if-alike (v.step == 0) _ _ _ _ (λ first. refl) (λ later.
    if-alike (v.step == 1) _ _ _ _
    (λ second.
    let is_one : v.step ≡ 1 = eqb-true v.step 1 second in
    rank_asking-alike v m n
    (λ near. let near_one : nat_lt (distance 1) v.nprocs ≡ true = ap (λ s. nat_lt (distance s) v.nprocs) (sym is_one) ∙ near in same 0 (rw (later, second, near_one) refl))
    (λ far. let far_one : nat_lt (distance 1) v.nprocs ≡ false = ap (λ s. nat_lt (distance s) v.nprocs) (sym is_one) ∙ far in same 1 (rw (later, second, far_one) refl)))
    (λ others.
    let own : slice_get m 1 ≡ slice_get n 1 = same 1 (rw (later, others) refl) in
    let next : slice_get m 2 ≡ slice_get n 2 = same 2 (rw (later, others) refl) in
    given_word-alike (slice_get m 2) (slice_get n 2) _ _ next (λ x hx.
    given_word-alike (slice_get m 1) (slice_get n 1) _ _ own (λ y hy.
    given_word-alike (slice_get m 3) (slice_get n 3) _ _ (same 3 (rw (later, others) refl)) (λ z hz.
    let sum = (y + z) % 2 ^ 64 in
    ap (after (store 0 x ∷ store 1 sum ∷ charge 1 ∷ []))
    (rank_asking-alike v (slice_set (slice_set m 0 x) 1 sum) (slice_set (slice_set n 0 x) 1 sum)
    (λ _. first_stored m x sum x hx ∙ sym (first_stored n x sum x (sym next ∙ hx)))
    (λ _. slice_get-set_alike (slice_set m 0 x) (slice_set n 0 x) 1 sum 1 (slice_get-set_alike m n 0 x 1 own))))))))

pub rank_footprint : IsFootprint (λ v. (rank_plan v v.memory).acts) (λ v. (rank_plan v v.memory).ending) rank_looks
rank_footprint = IsFootprint-of_reads (λ v. rank_plan v v.memory) rank_looks (λ v n long same. rank_plan-alike v v.memory n same) (λ v n long a. refl)
