-- Sets of processes: for each process, by its number, whether it is in the set.
use Rattle.std.specs.Prelude.{ℕ, ◌-◌, Bool, false, List, ◌||◌, filter, map, length, slice_index_or}
use Rattle.std.specs.List.{range_with_len}

-- the processes, in ascending order, at which the test holds, of so many
abbrev pub processes_where : ℕ → (ℕ → Bool) → List ℕ
processes_where count test = filter test (range_with_len 0 count)

-- the processes of a set, in ascending order
abbrev pub processes_in : List Bool → List ℕ
processes_in s = processes_where (length s) (λ p. slice_index_or s p false)

-- those of them from a number on
abbrev pub processes_from : List Bool → ℕ → List ℕ
processes_from s from = filter (λ p. slice_index_or s p false) (range_with_len from (length s - from))

-- the processes that are in the one set or in the other
abbrev pub union : List Bool → List Bool → List Bool
union s t = map (λ p. slice_index_or s p false || slice_index_or t p false) (range_with_len 0 (length s))
