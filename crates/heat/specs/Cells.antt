-- The own cells of a memory, one by one.
use Rattle.std.proofs.Common.{◌≡◌, ◌<◌, ◌+◌, ◌-◌, ◌++◌, ◌∙◌, ℕ, List, [], ◌∷◌, length, get_or, map, arith, refl}
use Rattle.std.specs.List.{range_with_len}
use Rattle.std.proofs.lemmas.Grind.{common_steps}
use Rattle.std.proofs.lemmas.List.FromFn.{length-map-range_with_len, map-range_with_len_more}
use Rattle.heat.specs.Heat.{own_cells, next_cell, next_cell_at, next_cells}

pub length_of_own_cells : (memory : List ℕ) → length (own_cells memory) ≡ length memory - 2
length_of_own_cells memory = grind (arith, common_steps)

-- the own cells start at word 1
pub own_cell : (memory : List ℕ) (k : ℕ) → k < length memory - 2 → get_or (own_cells memory) k 0 ≡ get_or memory (k + 1) 0
own_cell memory k h = grind (arith, common_steps)

pub length_of_next_cells : (memory : List ℕ) → length (next_cells memory) ≡ length memory - 2
length_of_next_cells memory = length-map-range_with_len (next_cell_at memory) 1 (length memory - 2)

-- one more of the next cells
pub one_more_cell : (m : List ℕ) (i : ℕ) → map (next_cell_at m) (range_with_len 1 (i + 1)) ≡ map (next_cell_at m) (range_with_len 1 i) ++ next_cell (get_or m i 0) (get_or m (i + 1) 0) (get_or m (i + 2) 0) ∷ []
one_more_cell m i =
    let here : i + 1 - 1 ≡ i = omega arith in
    let next : i + 1 + 1 ≡ i + 2 = omega arith in
    map-range_with_len_more (next_cell_at m) 1 i (i + 1) (omega arith) ∙ rw (here, next) refl
