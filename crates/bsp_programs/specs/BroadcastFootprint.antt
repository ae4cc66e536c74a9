-- A broadcast depends on the words at which it looks, and on no others.
use Rattle.std.proofs.Common.{◌≡◌, ℕ, true, List, refl, ◌==◌}
use Rattle.std.specs.List.{slice_get}
use Rattle.bsp_step.specs.ViewParts.{ViewParts}
use Rattle.bsp_step.specs.Footprint.{IsFootprint}
use Rattle.bsp_programs.specs.Broadcast.{broadcast_plan, broadcast_looks}
use Rattle.bsp_step.specs.Footprints.{if-alike, given_word-alike, given_argument-alike}
use Rattle.bsp_step.specs.Reads.{IsFootprint-of_reads}

broadcast_plan-alike : (v : ViewParts) (m n : List ℕ) → ((a : ℕ) → broadcast_looks v a ≡ true → slice_get m a ≡ slice_get n a) → broadcast_plan v m ≡ broadcast_plan v n
broadcast_plan-alike v m n same =
    if-alike (v.step == 0) _ _ _ _ (λ first. refl) (λ later.
    if-alike (v.step == 1) _ _ _ _
    (λ second. given_argument-alike (slice_get v.args 0) _ _ (λ root has.
    if-alike (root == v.pid) _ _ _ _
    (λ own. given_word-alike (slice_get m 0) (slice_get n 0) _ _ (same 0 (rw (later, second, has, own) refl)) (λ x h. refl))
    (λ other. refl)))
    (λ others. given_word-alike (slice_get m 0) (slice_get n 0) _ _ (same 0 (rw (later, others) refl)) (λ x h. refl)))

pub broadcast_footprint : IsFootprint (λ v. (broadcast_plan v v.memory).acts) (λ v. (broadcast_plan v v.memory).ending) broadcast_looks
broadcast_footprint = IsFootprint-of_reads (λ v. broadcast_plan v v.memory) broadcast_looks (λ v n long same. broadcast_plan-alike v v.memory n same) (λ v n long a. refl)
