-- A call that moves words depends on the words at which it looks, and on no others.
use Rattle.std.proofs.Common.{◌≡◌, ◌<◌, ◌+◌, ℕ, Bool, true, false, cond, List, Option, None, Some, length, take, drop, refl, ap, ◌==◌, nat_lt, arith}
use Rattle.std.specs.Prelude.{nat_le}
use Rattle.std.specs.List.{slice_get}
use Rattle.std.proofs.lemmas.Bool.{lt-ltb}
use Rattle.bsp_model.specs.declared.fault.End.TheVariants.{Sync}
use Rattle.bsp_step.specs.Blocks.{words_at}
use Rattle.bsp_step.specs.Footprint.{IsFootprint}
use Rattle.bsp_step.specs.Footprints.{given_argument-alike, if-alike}
use Rattle.bsp_step.specs.Plan.{Plan, does}
use Rattle.bsp_step.specs.Reads.{IsFootprint-of_reads, words_at-alike}
use Rattle.bsp_step.specs.ViewParts.{ViewParts}
use Rattle.bsp_programs.specs.MatVec.{given_words}
use Rattle.collectives.specs.declared.moving.Moving.{Moving as Movings}
use Rattle.collectives.specs.declared.moving.Moving.TheVariants.{Broadcast, BroadcastInTwo, Scatter, Gather, AllGather, Exchange}
use Rattle.collectives.specs.Moving.{beginning, half, is_sender, moving_plan, moving_looks}

-- whether words are there is decided by the memory's length
given_words-there : (m n : List ℕ) (start len : ℕ) (f : List ℕ → Plan) → length m ≡ length n → ((xs ys : List ℕ) → f xs ≡ f ys) → given_words (words_at m start len) f ≡ given_words (words_at n start len) f
given_words-there m n start len f long same =
    rw long (elim (nat_le (start + len) (length n)) as (λ b. given_words (cond b (Some (take len (drop start m))) None) f ≡ given_words (cond b (Some (take len (drop start n))) None) f) [
      | true ↦ same (take len (drop start m)) (take len (drop start n))
      | false ↦ refl
    ])

-- a process that sends nothing does the same whatever the words
half-none : (call : Movings) (v : ViewParts) (xs ys : List ℕ) → is_sender call v ≡ false → half call v xs ≡ half call v ys
half-none Broadcast v xs ys other = rw other refl
half-none BroadcastInTwo v xs ys other = rw other refl
half-none Scatter v xs ys other = rw other refl
half-none Gather v xs ys other = cc
half-none AllGather v xs ys other = cc
half-none Exchange v xs ys other = cc

below : (a len : ℕ) → a < 0 + len → nat_lt a len ≡ true
below a len h = lt-ltb a len (omega arith)

beginning-alike : (call : Movings) (v : ViewParts) (m n : List ℕ) (count : ℕ) → length m ≡ length n → ((a : ℕ) → nat_lt a count ≡ true → is_sender call v ≡ true → slice_get m a ≡ slice_get n a)
    → beginning call v count m ≡ beginning call v count n
beginning-alike call v m n count long same =
    let by : (b : Bool) → is_sender call v ≡ b → beginning call v count m ≡ beginning call v count n = λ b. elim b as (λ b. is_sender call v ≡ b → beginning call v count m ≡ beginning call v count n) [
      | true ↦ λ sender. ap (λ (o : Option (List ℕ)). given_words o (λ words. does (half call v words) Sync)) (words_at-alike m n 0 count long (λ a low high. same a (below a count high) sender))
      | false ↦ λ other. given_words-there m n 0 count (λ words. does (half call v words) Sync) long (λ xs ys. ap (λ acts. does acts Sync) (half-none call v xs ys other))
    ] in
    by (is_sender call v) refl

moving_plan-alike : (call : Movings) (v : ViewParts) (n : List ℕ) → length v.memory ≡ length n → ((a : ℕ) → moving_looks call v a ≡ true → slice_get v.memory a ≡ slice_get n a)
    → moving_plan call v v.memory v.queue ≡ moving_plan call v n v.queue
moving_plan-alike call v n long same =
    given_argument-alike (slice_get v.args 0) _ _ (λ count has.
    if-alike (v.step == 0) _ _ _ _
    (λ first. beginning-alike call v v.memory n count long (λ a within sender. same a (rw (has, first, within, sender) refl)))
    (λ later. refl))

abbrev plan_of : Movings → ViewParts → Plan
plan_of call v = moving_plan call v v.memory v.queue

pub moving_footprint : (call : Movings) → IsFootprint (λ v. (moving_plan call v v.memory v.queue).acts) (λ v. (moving_plan call v v.memory v.queue).ending) (moving_looks call)
moving_footprint Broadcast = IsFootprint-of_reads (plan_of Broadcast) (moving_looks Broadcast) (moving_plan-alike Broadcast) (λ v n long a. refl)
moving_footprint BroadcastInTwo = IsFootprint-of_reads (plan_of BroadcastInTwo) (moving_looks BroadcastInTwo) (moving_plan-alike BroadcastInTwo) (λ v n long a. refl)
moving_footprint Scatter = IsFootprint-of_reads (plan_of Scatter) (moving_looks Scatter) (moving_plan-alike Scatter) (λ v n long a. refl)
moving_footprint Gather = IsFootprint-of_reads (plan_of Gather) (moving_looks Gather) (moving_plan-alike Gather) (λ v n long a. refl)
moving_footprint AllGather = IsFootprint-of_reads (plan_of AllGather) (moving_looks AllGather) (moving_plan-alike AllGather) (λ v n long a. refl)
moving_footprint Exchange = IsFootprint-of_reads (plan_of Exchange) (moving_looks Exchange) (moving_plan-alike Exchange) (λ v n long a. refl)
