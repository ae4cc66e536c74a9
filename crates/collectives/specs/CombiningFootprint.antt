-- A call that combines words depends on the words at which it looks, and on no others.
use Rattle.std.proofs.Common.{◌≡◌, ℕ, List, Option, None, Some, true, refl, ◌==◌}
use Rattle.std.specs.List.{slice_get}
use Rattle.bsp_model.specs.declared.fault.End.TheVariants.{Sync}
use Rattle.bsp_step.specs.Footprint.{IsFootprint}
use Rattle.bsp_step.specs.Footprints.{given_argument-alike, given_word-alike, if-alike}
use Rattle.bsp_step.specs.Plan.{Plan, does}
use Rattle.bsp_step.specs.Reads.{IsFootprint-of_reads}
use Rattle.bsp_step.specs.ViewParts.{ViewParts}
use Rattle.bsp_collectives.specs.declared.operation.Operation.{Operation as Operations}
use Rattle.collectives.specs.declared.combining.Combining.{Combining as Combinings}
use Rattle.collectives.specs.declared.combining.Combining.TheVariants.{Reduce, AllReduce, Scan}
use Rattle.collectives.specs.Combining.{half, combining_plan, combining_looks, given_operation, operation_of}

given_operation-alike : (o : Option Operations) (f g : Operations → Plan) → ((x : Operations) → f x ≡ g x) → given_operation o f ≡ given_operation o g
given_operation-alike None f g same = refl
given_operation-alike (Some x) f g same = same x

combining_plan-alike : (call : Combinings) (v : ViewParts) (n : List ℕ) → ((a : ℕ) → combining_looks v a ≡ true → slice_get v.memory a ≡ slice_get n a)
    → combining_plan call v v.memory v.queue ≡ combining_plan call v n v.queue
combining_plan-alike call v n same =
    given_argument-alike (slice_get v.args 0) _ _ (λ code has.
    given_operation-alike (operation_of code) _ _ (λ operation.
    if-alike (v.step == 0) _ _ _ _
    (λ first. given_word-alike (slice_get v.memory 0) (slice_get n 0) (λ word. does (half call v word) Sync) (λ word. does (half call v word) Sync) (same 0 (rw first refl)) (λ word is. refl))
    (λ later. refl)))

abbrev plan_of : Combinings → ViewParts → Plan
plan_of call v = combining_plan call v v.memory v.queue

pub combining_footprint : (call : Combinings) → IsFootprint (λ v. (combining_plan call v v.memory v.queue).acts) (λ v. (combining_plan call v v.memory v.queue).ending) combining_looks
combining_footprint Reduce = IsFootprint-of_reads (plan_of Reduce) combining_looks (λ v n long same. combining_plan-alike Reduce v n same) (λ v n long a. refl)
combining_footprint AllReduce = IsFootprint-of_reads (plan_of AllReduce) combining_looks (λ v n long same. combining_plan-alike AllReduce v n same) (λ v n long a. refl)
combining_footprint Scan = IsFootprint-of_reads (plan_of Scan) combining_looks (λ v n long same. combining_plan-alike Scan v n same) (λ v n long a. refl)
