-- A broadcast: the process whose number is argument 0 tells its word 0 to all others, and all print it (this profile).
use Rattle.std.specs.Prelude.{ℕ, Bool, false, List, [], ◌∷◌, Option, None, Some, map, filter, not, ◌==◌, ◌&&◌, if◌then◌else◌, slice_get}
use Rattle.std.specs.List.{range_with_len}
use Rattle.bsp_model.specs.declared.fault.End.TheVariants.{Sync, Halt}
use Rattle.bsp_step.specs.ViewParts.{ViewParts}
use Rattle.bsp_step.specs.Act.{Act, push_reg, put, print}
use Rattle.bsp_step.specs.Plan.{Plan, does, given_argument, given_word}

-- a put of the word to word 0 of each of these processes but the own
abbrev pub puts_to_others : ℕ → ℕ → List ℕ → List Act
puts_to_others own word pids = map (λ pid. put pid (word ∷ []) 0 0) (filter (λ pid. not (pid == own)) pids)

-- Superstep 0 registers word 0. In superstep 1 the root puts its word 0 to each other process. Each later superstep prints word 0 and ends.
abbrev pub broadcast_plan : ViewParts → List ℕ → Plan
broadcast_plan v memory =
    if v.step == 0 then does (push_reg 0 1 ∷ []) Sync
    else (if v.step == 1 then given_argument (slice_get v.args 0) (λ root.
    if root == v.pid then given_word (slice_get memory 0) (λ word. does (puts_to_others v.pid word (range_with_len 0 v.nprocs)) Sync)
    else does [] Sync)
    else given_word (slice_get memory 0) (λ word. does (print (word ∷ []) ∷ []) Halt))

-- whether an argument is this number
abbrev pub is_number : Option ℕ → ℕ → Bool
is_number None pid = false
is_number (Some root) pid = root == pid

-- It looks at word 0 alone: in superstep 1 where it is the root, and in each later superstep.
abbrev pub broadcast_looks : ViewParts → ℕ → Bool
broadcast_looks v address =
    if v.step == 0 then false
    else (if v.step == 1 then address == 0 && is_number (slice_get v.args 0) v.pid
    else address == 0)
