-- Prefix sums depend on the words at which they look, and on no others.
use Rattle.std.proofs.Common.{◌≡◌, ℕ, ◌+◌, ◌%◌, ◌^◌, true, false, List, [], ◌∷◌, refl, ap, ◌==◌, nat_lt, arith}
use Rattle.std.proofs.lemmas.Bool.Decides.{nat_tests}
use Rattle.std.specs.List.{slice_get, slice_set}
use Rattle.bsp_step.specs.ViewParts.{ViewParts}
use Rattle.bsp_step.specs.Act.{store, charge}
use Rattle.bsp_step.specs.Footprint.{IsFootprint}
use Rattle.bsp_step.specs.Plan.{after}
use Rattle.bsp_programs.specs.Doubling.{distance}
use Rattle.bsp_programs.specs.Prefix.{prefix_plan, prefix_sending, prefix_looks, has_received}
use Rattle.bsp_step.specs.Footprints.{if-alike, given_word-alike, slice_get-set_alike}
use Rattle.bsp_step.specs.Reads.{IsFootprint-of_reads}

prefix_sending-alike : (v : ViewParts) (m n : List ℕ) → (nat_lt (v.pid + distance v.step) v.nprocs ≡ true → slice_get m 0 ≡ slice_get n 0) → (nat_lt (distance v.step) v.nprocs ≡ false → slice_get m 0 ≡ slice_get n 0) → prefix_sending v m ≡ prefix_sending v n
prefix_sending-alike v m n puts prints =
    if-alike (nat_lt (distance v.step) v.nprocs) _ _ _ _
    (λ near. if-alike (nat_lt (v.pid + distance v.step) v.nprocs) _ _ _ _
    (λ within. given_word-alike (slice_get m 0) (slice_get n 0) _ _ (puts within) (λ x h. refl))
    (λ past. refl))
    (λ far. given_word-alike (slice_get m 0) (slice_get n 0) _ _ (prints far) (λ x h. refl))

prefix_plan-alike : (v : ViewParts) (m n : List ℕ) → ((a : ℕ) → prefix_looks v a ≡ true → slice_get m a ≡ slice_get n a) → prefix_plan v m ≡ prefix_plan v n
prefix_plan-alike v m n same =
    if-alike (v.step == 0) _ _ _ _ (λ first. refl) (λ later.
    if-alike (has_received v.step v.pid) _ _ _ _
    (λ received.
    let own : slice_get m 0 ≡ slice_get n 0 = same 0 (rw (later, received) refl) in
    given_word-alike (slice_get m 0) (slice_get n 0) _ _ own (λ x hx.
    given_word-alike (slice_get m 1) (slice_get n 1) _ _ (same 1 (rw (later, received) refl)) (λ y hy.
    let sum = (x + y) % 2 ^ 64 in
    let kept = slice_get-set_alike m n 0 sum 0 own in
    ap (after (store 0 sum ∷ charge 1 ∷ [])) (prefix_sending-alike v (slice_set m 0 sum) (slice_set n 0 sum) (λ _. kept) (λ _. kept)))))
    (λ nothing.
    prefix_sending-alike v m n
    (λ within. same 0 (rw (later, nothing, within) refl))
    (λ far. same 0 (rw (later, nothing) (grind (arith, nat_tests))))))

pub prefix_footprint : IsFootprint (λ v. (prefix_plan v v.memory).acts) (λ v. (prefix_plan v v.memory).ending) prefix_looks
prefix_footprint = IsFootprint-of_reads (λ v. prefix_plan v v.memory) prefix_looks (λ v n long same. prefix_plan-alike v v.memory n same) (λ v n long a. refl)
