-- The program depends on the words at which it looks, and on no others.
use Rattle.std.proofs.Common.{◌≡◌, ◌<◌, ◌+◌, ◌==◌, ℕ, true, List, Option, length, refl, ap, nat_lt, arith}
use Rattle.std.specs.List.{slice_get}
use Rattle.std.proofs.lemmas.Bool.{lt-ltb}
use Rattle.bsp_model.specs.declared.fault.End.TheVariants.{Sync}
use Rattle.bsp_step.specs.Footprint.{IsFootprint}
use Rattle.bsp_step.specs.Footprints.{given_argument-alike, if-alike}
use Rattle.bsp_step.specs.Plan.{does}
use Rattle.bsp_step.specs.Reads.{IsFootprint-of_reads, words_at-alike}
use Rattle.bsp_step.specs.ViewParts.{ViewParts}
use Rattle.bsp_programs.specs.MatVec.{given_words}
use Rattle.bsp_collectives.specs.Halves.{exchange_parts}
use Rattle.collectives.specs.Parting.{lengths, parting_looks, parting_plan}

below : (a len : ℕ) → a < 0 + len → nat_lt a len ≡ true
below a len h = lt-ltb a len (omega arith)

parting_plan-alike : (v : ViewParts) (n : List ℕ) → length v.memory ≡ length n → ((a : ℕ) → parting_looks v a ≡ true → slice_get v.memory a ≡ slice_get n a)
    → parting_plan v v.memory v.queue ≡ parting_plan v n v.queue
parting_plan-alike v n long same =
    given_argument-alike (slice_get v.args 0) _ _ (λ count has.
    if-alike (v.step == 0) _ _ _ _
    (λ first. ap (λ (o : Option (List ℕ)). given_words o (λ words. does (exchange_parts v words (lengths v.args v.nprocs)) Sync)) (words_at-alike v.memory n 0 count long (λ a low high. same a (rw (has, first, below a count high) refl))))
    (λ later. refl))

pub parting_footprint : IsFootprint (λ v. (parting_plan v v.memory v.queue).acts) (λ v. (parting_plan v v.memory v.queue).ending) parting_looks
parting_footprint = IsFootprint-of_reads (λ v. parting_plan v v.memory v.queue) parting_looks parting_plan-alike (λ v n long a. refl)
