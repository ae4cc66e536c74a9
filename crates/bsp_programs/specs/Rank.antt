-- List ranking by pointer jumping: each element ends with its distance to the last one (this profile).
use Rattle.std.specs.Prelude.{ℕ, Bool, false, List, [], ◌∷◌, ◌+◌, ◌%◌, ◌^◌, ◌==◌, ◌&&◌, if◌then◌else◌, nat_lt, nat_le, slice_get, slice_set}
use Rattle.bsp_model.specs.declared.fault.End.TheVariants.{Sync, Halt}
use Rattle.bsp_step.specs.ViewParts.{ViewParts}
use Rattle.bsp_step.specs.Act.{push_reg, get, print, store, charge}
use Rattle.bsp_step.specs.Plan.{Plan, does, after, given_word}
use Rattle.bsp_programs.specs.Doubling.{distance}

-- While the distance is below the number of processes, the successor's words 0 and 1 are asked for, into words 2 and 3. After that the own rank is printed.
abbrev pub rank_asking : ViewParts → List ℕ → Plan
rank_asking v memory =
    if nat_lt (distance v.step) v.nprocs then given_word (slice_get memory 0) (λ successor. does (get successor 0 0 2 2 ∷ []) Sync)
    else given_word (slice_get memory 1) (λ rank. does (print (rank ∷ []) ∷ []) Halt)

-- the successor and the rank are kept as words 0 and 1 first
abbrev pub rank_jumping : ViewParts → List ℕ → ℕ → ℕ → Plan
rank_jumping v memory successor rank =
    after (store 0 successor ∷ store 1 rank ∷ charge 1 ∷ []) (rank_asking v (slice_set (slice_set memory 0 successor) 1 rank))

-- the successor's successor becomes the own, and its rank is added to the own
abbrev pub rank_adding : ViewParts → List ℕ → Plan
rank_adding v memory =
    given_word (slice_get memory 2) (λ successor. given_word (slice_get memory 1) (λ own. given_word (slice_get memory 3) (λ received.
    rank_jumping v memory successor ((own + received) % 2 ^ 64))))

-- Superstep 0 registers words 0 and 1. Superstep 1 asks. In each later superstep what came is taken over; then more is asked for, or the rank is printed.
abbrev pub rank_plan : ViewParts → List ℕ → Plan
rank_plan v memory =
    if v.step == 0 then does (push_reg 0 2 ∷ []) Sync
    else (if v.step == 1 then rank_asking v memory else rank_adding v memory)

-- It looks at word 0 or 1 in superstep 1, and at words 1, 2 and 3 in each later superstep.
abbrev pub rank_looks : ViewParts → ℕ → Bool
rank_looks v address =
    if v.step == 0 then false
    else (if v.step == 1 then (if nat_lt (distance 1) v.nprocs then address == 0 else address == 1)
    else nat_le 1 address && nat_le address 3)
