-- Whether a run may start with the input that a document describes: J6, decided before a value is read (this profile).
use Rattle.std.specs.Prelude.{ℕ, ℤ, pos, Bool, false, ◌&&◌, ◌==◌, not, nat_le, nat_lt, length, codes, Option, None, Some, if◌then◌else◌}
use Rattle.std.specs.List.{list_all}
use Rattle.toml.specs.Data.{Data, Members, get_member}
use Rattle.bsp_model.specs.Limits.{highest_price, most_arguments, most_memory_words, most_processes, most_supersteps}
use Rattle.bsp_model.specs.declared.fault.InputFault.{InputFault}
use Rattle.bsp_model.specs.declared.fault.InputFault.TheVariants.{NoProcess, TooMany, LengthsDiffer, MemoryTooLong, ArgsTooLong, BadLimit, BadPrice}
use Rattle.bsp_engine.specs.Tree.{elements, elements_at, integer_at}

-- a row of at most so many integers
abbrev pub is_short : ℕ → Data → Bool
is_short most d = nat_le (length (elements d)) most

-- How many argument lists there are. Without the key there is an empty one for each memory.
abbrev pub count_of_args : Option Data → ℕ → ℕ
count_of_args None memories = memories
count_of_args (Some d) memories = length (elements d)

-- an integer from one number to another; a negative one is below each
abbrev pub is_between : ℕ → ℕ → Option ℤ → Bool
is_between low high (Some (pos n)) = nat_le low n && nat_le n high
is_between low high _ = false

-- The first of I1 to I7, decided by the lengths of `memory` and `args` and by the signed values of `limit`, `g` and `l`.
-- A negative limit is I6; a negative g or l is I7.
abbrev pub described_fault : Members → Option InputFault
described_fault t =
    let memories = elements_at (codes "memory") t in
    if length memories == 0 then Some NoProcess
    else (if nat_lt most_processes (length memories) then Some TooMany
    else (if not (count_of_args (get_member (codes "args") t) (length memories) == length memories) then Some LengthsDiffer
    else (if not (list_all (is_short most_memory_words) memories) then Some MemoryTooLong
    else (if not (list_all (is_short most_arguments) (elements_at (codes "args") t)) then Some ArgsTooLong
    else (if not (is_between 1 most_supersteps (integer_at (codes "limit") t)) then Some BadLimit
    else (if not (is_between 0 highest_price (integer_at (codes "g") t) && is_between 0 highest_price (integer_at (codes "l") t)) then Some BadPrice
    else None))))))
