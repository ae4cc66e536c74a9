-- Heat in a rod: its cells are dealt to the processes in a row, and in each time step every cell moves towards its neighbours (this profile).
use Rattle.std.specs.Prelude.{ℕ, Bool, false, true, List, [], ◌∷◌, Option, None, Some, ◌+◌, ◌-◌, ◌*◌, ◌/◌, ◌%◌, ◌^◌, ◌==◌, ◌&&◌, ◌||◌, if◌then◌else◌, nat_lt, nat_le, length, map, take, drop, sum, slice_get, slice_index}
use Rattle.std.specs.List.{range_with_len}
use Rattle.bsp_model.specs.declared.fault.End.TheVariants.{Sync, Halt, Abort}
use Rattle.bsp_step.specs.ViewParts.{ViewParts}
use Rattle.bsp_step.specs.Act.{Act, charge, put, push_reg, print}
use Rattle.bsp_step.specs.Blocks.{stores}
use Rattle.bsp_step.specs.Plan.{Plan, does, after, given_argument}

-- What a cell becomes, by the word before it, its own and the word after it: their sum with its own word twice, modulo 2^64, divided by 4 and rounded down.
abbrev pub next_cell : ℕ → ℕ → ℕ → ℕ
next_cell before own after = (before + 2 * own + after) % 2 ^ 64 / 4

-- what the cell at an address becomes
abbrev pub next_cell_at : List ℕ → ℕ → ℕ
next_cell_at memory i = next_cell (slice_index memory (i - 1)) (slice_index memory i) (slice_index memory (i + 1))

-- The own cells are all words but the first and the last, which are the neighbours' nearest cells or the fixed ends of the rod.
abbrev pub own_cells : List ℕ → List ℕ
own_cells memory = take (length memory - 2) (drop 1 memory)

-- the own cells after a time step, all from the words as they were before
abbrev pub next_cells : List ℕ → List ℕ
next_cells memory = map (next_cell_at memory) (range_with_len 1 (length memory - 2))

-- The last own cell goes to the process above, if there is one: over its first word, which is the area that goes by the address of the own first word.
abbrev pub put_above : ViewParts → List ℕ → List Act
put_above v cells = if nat_lt (v.pid + 1) v.nprocs then put (v.pid + 1) (slice_index cells (length cells - 1) ∷ []) 0 0 ∷ [] else []

-- The first own cell goes to the process below before that, if there is one: over its last word, wherever that lies, which is the area that goes by
-- the address of the own last word. This comes after word 0 and the own cells.
abbrev pub puts_to_neighbours : ViewParts → List ℕ → List Act
puts_to_neighbours v cells =
    if v.pid == 0 then put_above v cells else put (v.pid - 1) (slice_index cells 0 ∷ []) (length cells + 1) 0 ∷ put_above v cells

-- whether time steps are left: superstep s comes before time step s
abbrev pub are_steps_left : ViewParts → ℕ → Bool
are_steps_left v time_steps = nat_le v.step time_steps

-- Where time steps are left the outer cells are put to the neighbours. After the last one the sum of the own cells is printed, modulo 2^64.
abbrev pub heat_telling : ViewParts → ℕ → List ℕ → Plan
heat_telling v time_steps cells =
    if are_steps_left v time_steps then does (puts_to_neighbours v cells) Sync
    else does (print (sum cells % 2 ^ 64 ∷ []) ∷ []) Halt

-- After a time step each own cell is charged before that.
abbrev pub heat_charging : ViewParts → ℕ → List ℕ → Plan
heat_charging v time_steps cells = after (charge (length cells) ∷ []) (heat_telling v time_steps cells)

-- these are stored as the own cells, in ascending order, and then charged
abbrev pub heat_storing : ViewParts → ℕ → List ℕ → Plan
heat_storing v time_steps cells = after (stores 1 cells) (heat_charging v time_steps cells)

-- A time step stores what each own cell becomes.
abbrev pub heat_advancing : ViewParts → ℕ → List ℕ → Plan
heat_advancing v time_steps memory = heat_storing v time_steps (next_cells memory)

-- Superstep 0 registers the first word and the last, each as an area of its own, and each superstep from 2 on begins with a time step.
abbrev pub heat_working : ViewParts → ℕ → List ℕ → Plan
heat_working v time_steps memory =
    if v.step == 0 then does (push_reg 0 1 ∷ push_reg (length memory - 1) 1 ∷ []) Sync
    else (if v.step == 1 then heat_telling v time_steps (own_cells memory)
    else heat_advancing v time_steps memory)

-- Argument 0 is the number of time steps. A missing argument ends the turn by Abort(2), and then a memory of less than three words by Abort(1).
abbrev pub heat_plan : ViewParts → List ℕ → Plan
heat_plan v memory =
    given_argument (slice_get v.args 0) (λ time_steps. if nat_lt (length memory) 3 then does [] (Abort 1) else heat_working v time_steps memory)

-- whether an address is that of an own cell, in a memory of so many words
abbrev pub is_own_cell : ℕ → ℕ → Bool
is_own_cell len address = nat_le 1 address && nat_lt address (len - 1)

-- whether an address is that of a cell which is put to a neighbour
abbrev pub is_put_cell : ViewParts → ℕ → ℕ → Bool
is_put_cell v len address = (address == 1 && nat_lt 0 v.pid) || (address == len - 2 && nat_lt (v.pid + 1) v.nprocs)

abbrev pub heat_looks_with : ViewParts → ℕ → Option ℕ → ℕ → Bool
heat_looks_with v len None address = false
heat_looks_with v len (Some time_steps) address =
    if nat_lt len 3 then false
    else (if v.step == 0 then false
    else (if v.step == 1 then (if are_steps_left v time_steps then is_put_cell v len address else is_own_cell len address)
    else true))

-- It looks at nothing in superstep 0, in superstep 1 at the cells that it puts (at all own cells where there is no time step), and at all words later.
abbrev pub heat_looks : ViewParts → ℕ → Bool
heat_looks v address = heat_looks_with v (length v.memory) (slice_get v.args 0) address
