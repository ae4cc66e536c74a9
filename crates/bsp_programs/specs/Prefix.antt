-- Prefix sums by doubling: process p ends with the sum of the words of processes 0 to p (this profile).
use Rattle.std.specs.Prelude.{ℕ, Bool, false, List, [], ◌∷◌, ◌+◌, ◌-◌, ◌%◌, ◌^◌, ◌==◌, ◌&&◌, ◌||◌, if◌then◌else◌, nat_lt, nat_le, slice_get, slice_set}
use Rattle.bsp_model.specs.declared.fault.End.TheVariants.{Sync, Halt}
use Rattle.bsp_step.specs.ViewParts.{ViewParts}
use Rattle.bsp_step.specs.Act.{push_reg, put, print, store, charge}
use Rattle.bsp_step.specs.Plan.{Plan, does, after, given_word}
use Rattle.bsp_programs.specs.Doubling.{distance}

-- whether a word came to the process at the end of the superstep before
abbrev pub has_received : ℕ → ℕ → Bool
has_received step pid = nat_le 2 step && nat_le (distance (step - 1)) pid

-- While the distance is below the number of processes, word 0 is put to word 1 of the process that far on, if there is one. After that word 0 is printed.
abbrev pub prefix_sending : ViewParts → List ℕ → Plan
prefix_sending v memory =
    if nat_lt (distance v.step) v.nprocs then
    (if nat_lt (v.pid + distance v.step) v.nprocs then given_word (slice_get memory 0) (λ word. does (put (v.pid + distance v.step) (word ∷ []) 0 1 ∷ []) Sync)
    else does [] Sync)
    else given_word (slice_get memory 0) (λ word. does (print (word ∷ []) ∷ []) Halt)

-- the sum is kept as word 0 first
abbrev pub prefix_adding : ViewParts → List ℕ → ℕ → Plan
prefix_adding v memory sum = after (store 0 sum ∷ charge 1 ∷ []) (prefix_sending v (slice_set memory 0 sum))

-- Superstep 0 registers words 0 and 1. In each later superstep the word that came, if one did, is added to word 0; then word 0 is sent on or printed.
abbrev pub prefix_plan : ViewParts → List ℕ → Plan
prefix_plan v memory =
    if v.step == 0 then does (push_reg 0 2 ∷ []) Sync
    else (if has_received v.step v.pid then
    given_word (slice_get memory 0) (λ own. given_word (slice_get memory 1) (λ received. prefix_adding v memory ((own + received) % 2 ^ 64)))
    else prefix_sending v memory)

-- It looks at word 0 where it adds, puts or prints it, and at word 1 where it adds it.
abbrev pub prefix_looks : ViewParts → ℕ → Bool
prefix_looks v address =
    if v.step == 0 then false
    else (if address == 0 then has_received v.step v.pid || (nat_lt (v.pid + distance v.step) v.nprocs || nat_le v.nprocs (distance v.step))
    else address == 1 && has_received v.step v.pid)
