-- What heat in a rod computes: the rod in one piece, time step by time step (the claim of this program).
use Rattle.std.specs.Prelude.{◌≡◌, ◌≤◌, ◌+◌, ◌-◌, ◌*◌, ◌%◌, ◌^◌, ◌==◌, ◌||◌, ℕ, zero, suc, nat_le, if◌then◌else◌, min, List, [], ◌∷◌, ◌++◌, All, Some, None, map, length, take, drop, sum, slice_get, slice_index, slice_index_or}
use Rattle.std.specs.List.{flat_map, range_with_len}
use Rattle.bsp_model.specs.declared.input.Input.{Input}
use Rattle.bsp_model.specs.declared.cost.CostRow.{CostRow}
use Rattle.bsp_model.specs.Input.{input_fault}
use Rattle.bsp_step.specs.ViewParts.{ViewParts}
use Rattle.bsp_step.specs.OutcomeParts.{OutcomeParts}
use Rattle.bsp_step.specs.Turn.{turn_of}
use Rattle.bsp_deliver.specs.Cost.{largest}
use Rattle.bsp_deliver.specs.Requests.{each_below}
use Rattle.bsp_run.specs.declared.result.Status.TheVariants.{Halted}
use Rattle.bsp_run.specs.Run.{Run}
use Rattle.bsp_run.specs.Result.{status_of, memories_of, lines_of, costs_of, total_of}
use Rattle.heat.specs.Heat.{next_cell, own_cells, heat_plan}

-- the turn of heat in a rod
abbrev pub heat_turn : ViewParts → OutcomeParts
heat_turn = turn_of (λ v. (heat_plan v v.memory).acts) (λ v. (heat_plan v v.memory).ending)

-- Word i of a rod a time step later. The first word and the last are fixed; each other is a cell, and becomes what it becomes by the words beside it.
abbrev pub word_later : List ℕ → ℕ → ℕ
word_later rod i =
    if (i == 0) || ((i + 1) == length rod) then slice_index rod i
    else next_cell (slice_index rod (i - 1)) (slice_index rod i) (slice_index rod (i + 1))

-- a rod after so many time steps
unfoldable pub advanced : List ℕ → ℕ → List ℕ
advanced rod zero = rod
advanced rod (suc steps) = each_below (length (advanced rod steps)) (word_later (advanced rod steps))

-- the last word
abbrev pub last_word : List ℕ → ℕ
last_word words = slice_index words (length words - 1)

-- The rod in one piece that is dealt to these memories: the cells of all, one memory after the other, between the first word of the first memory
-- and the last word of the last.
abbrev pub rod_of : List (List ℕ) → List ℕ
rod_of memories =
    slice_index (slice_index_or memories 0 []) 0 ∷ flat_map own_cells memories ++ last_word (slice_index_or memories (length memories - 1) []) ∷ []

-- How many cells the processes below p have.
abbrev pub cells_below : List (List ℕ) → ℕ → ℕ
cells_below memories p = length (flat_map own_cells (take p memories))

-- What process p holds of a rod: its cells, and the words beside them.
abbrev pub piece_of : List (List ℕ) → List ℕ → ℕ → List ℕ
piece_of memories rod p = take (length (slice_index_or memories p [])) (drop (cells_below memories p) rod)

-- the outer words of the one list, and between them the cells of the other
abbrev pub cells_between : List ℕ → List ℕ → List ℕ
cells_between outer words = slice_index outer 0 ∷ own_cells words ++ last_word outer ∷ []

-- The memory of process p after so many time steps: its cells of the rod, between the words as they were put to it, a time step before. Without a time
-- step nothing is put.
abbrev pub memory_advanced : List (List ℕ) → ℕ → ℕ → List ℕ
memory_advanced memories zero p = slice_index_or memories p []
memory_advanced memories (suc steps) p =
    cells_between (piece_of memories (advanced (rod_of memories) steps) p) (piece_of memories (advanced (rod_of memories) (suc steps)) p)

-- the sum of the cells of process p, modulo 2^64
abbrev pub sum_advanced : List (List ℕ) → ℕ → ℕ → ℕ
sum_advanced memories steps p = sum (own_cells (piece_of memories (advanced (rod_of memories) steps) p)) % 2 ^ 64

-- An input of heat in a rod: every memory has three words, all processes name one number of time steps, and the limit leaves room for them.
pub record IsRodInput (input : Input) (steps : ℕ) : Type 0 where
  pub lawful : input_fault input ≡ None
  pub words : All (λ memory. 3 ≤ length memory) input.mems
  pub named : All (λ args. slice_get args 0 ≡ Some steps) input.args
  pub room : steps + 2 ≤ input.limit

-- the largest number of cells of a process
abbrev pub most_cells : List (List ℕ) → ℕ
most_cells memories = largest (map (λ memory. length memory - 2) memories)

-- the work of superstep s: from the second on each process makes a time step
abbrev pub step_work : List (List ℕ) → ℕ → ℕ
step_work memories s = if nat_le 2 s then most_cells memories else 0

-- the words that a process sends to its neighbours: two, and less where there are less than three processes
abbrev pub neighbours : List (List ℕ) → ℕ
neighbours memories = min (length memories - 1) 2

-- what superstep s costs, from 1 to the number of time steps
abbrev pub step_cost : Input → ℕ → CostRow
step_cost input s =
    record {
      work = step_work input.mems s;
      h = neighbours input.mems;
      cost = step_work input.mems s + neighbours input.mems * input.g + input.l;
    }

-- What the supersteps cost: the first registers, then each puts the outer cells, and the last prints.
abbrev pub costs_advanced : Input → ℕ → List CostRow
costs_advanced input steps =
    record { work = 0; h = 0; cost = input.l }
    ∷ map (step_cost input) (range_with_len 1 steps)
    ++ record { work = step_work input.mems (steps + 1); h = 0; cost = step_work input.mems (steps + 1) } ∷ []

-- The memories are left with the rod after so many time steps, and each process has printed the sum of its cells, as its only line.
pub record IsAdvanced (input : Input) (steps : ℕ) (r : Run) : Type 0 where
  pub status : status_of r ≡ Halted
  pub rod : rod_of (memories_of r) ≡ advanced (rod_of input.mems) steps
  pub memories : memories_of r ≡ each_below (length input.mems) (memory_advanced input.mems steps)
  pub lines : lines_of r ≡ each_below (length input.mems) (λ p. (sum_advanced input.mems steps p ∷ []) ∷ [])
  pub costs : costs_of r ≡ costs_advanced input steps
  pub total : total_of (costs_of r) ≡ steps * (neighbours input.mems * input.g + input.l + most_cells input.mems) + input.l

-- Where the input is that of heat in a rod, the rod is advanced by its time steps.
abbrev pub Advances : Input → Run → Type 0
Advances input r = (steps : ℕ) → IsRodInput input steps → IsAdvanced input steps r
