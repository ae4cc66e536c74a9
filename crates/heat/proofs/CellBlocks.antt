-- Cells that are taken block by block.
use Rattle.std.proofs.Common.{◌≡◌, ◌≤◌, ◌<◌, ◌+◌, ◌-◌, ◌++◌, ◌∷◌, [], ℕ, zero, suc, List, length, get_or, map, take, drop, sum, refl, sym, ap, ◌∙◌, arith, zero-add, add-zero}
use Rattle.std.specs.List.{range_with_len}
use Rattle.std.specs.Prelude.{slice_set}
use Rattle.std.proofs.lemmas.Grind.{common_steps}
use Rattle.std.proofs.lemmas.List.{ext_get_or, get_or-drop, drop-drop}
use Rattle.std.proofs.lemmas.List.FromFn.{length-map-range_with_len, get_or-map-range_with_len}
use Rattle.std.proofs.lemmas.List.Sums.{sum_by-append}
use Rattle.std.proofs.Math.Seq.{take-add, drop-append_seam}
use Rattle.bsp_step.specs.Act.{store}
use Rattle.bsp_step.specs.Blocks.{stores, stored}
use Rattle.bsp_step.proofs.Storing.{stored-is, length-stored, stores-append}
use Rattle.heat.specs.Heat.{next_cell_at, next_cells, own_cells}
use Rattle.heat.specs.Cells.{length_of_next_cells}

-- what so many cells from an address on become
abbrev pub cells_from : List ℕ → ℕ → ℕ → List ℕ
cells_from memory start count = map (next_cell_at memory) (range_with_len start count)

pub length-cells_from : (m : List ℕ) (a n : ℕ) → length (cells_from m a n) ≡ n
length-cells_from m a n = length-map-range_with_len (next_cell_at m) a n

-- one block behind another
pub cells_from-append : (m : List ℕ) (a n k : ℕ) → cells_from m a (n + k) ≡ cells_from m a n ++ cells_from m (a + n) k
cells_from-append m a zero k = ap (cells_from m a) (zero-add k) ∙ ap (λ b. cells_from m b k) (sym (add-zero a))
cells_from-append m a (suc n) k =
    let more : suc n + k ≡ suc (n + k) = omega arith in
    let next : a + 1 + n ≡ a + suc n = omega arith in
    ap (cells_from m a) more ∙ ap (λ cells. next_cell_at m a ∷ cells) (cells_from-append m (a + 1) n k ∙ ap (λ b. cells_from m (a + 1) n ++ cells_from m b k) next)

pub stored-append : (memory : List ℕ) (start : ℕ) (xs ys : List ℕ) → stored memory start (xs ++ ys) ≡ stored (stored memory start xs) (start + length xs) ys
stored-append memory start [] ys = ap (λ k. stored memory k ys) (sym (add-zero start))
stored-append memory start (x ∷ xs) ys =
    let next : start + 1 + length xs ≡ start + length (x ∷ xs) = omega arith in
    stored-append (slice_set memory start x) (start + 1) xs ys ∙ ap (λ k. stored (stored (slice_set memory start x) (start + 1) xs) k ys) next

-- word i of a block, behind the word before it
word_of_block : (m : List ℕ) (start count i : ℕ) → 1 ≤ start → start + count < length m → i < count + 2 → get_or (get_or m (start - 1) 0 ∷ take (count + 1) (drop start m)) i 0 ≡ get_or m (start - 1 + i) 0
word_of_block m start count zero low high within = ap (λ a. get_or m a 0) (sym (add-zero (start - 1)))
word_of_block m start count (suc i) low high within =
    let next : start - 1 + suc i ≡ start + i = omega arith in
    let here : get_or (take (count + 1) (drop start m)) i 0 ≡ get_or m (start + i) 0 = grind (arith, common_steps) in
    here ∙ ap (λ a. get_or m a 0) (sym next)

-- the cells of a block, by its words and the word before it
pub next_cells_of_block : (m : List ℕ) (start count : ℕ) → 1 ≤ start → start + count < length m → next_cells (get_or m (start - 1) 0 ∷ take (count + 1) (drop start m)) ≡ cells_from m start count
next_cells_of_block m start count low high =
    let block = get_or m (start - 1) 0 ∷ take (count + 1) (drop start m) in
    let long : length block ≡ count + 2 = grind (arith, common_steps) in
    let cells : length (next_cells block) ≡ count = omega (arith, length_of_next_cells block) in
    ext_get_or 0 (next_cells block) (cells_from m start count) (cells ∙ sym (length-cells_from m start count)) (λ i within.
    let w = word_of_block m start count in
    let before : get_or block (i + 1 - 1) 0 ≡ get_or m (start + i - 1) 0 = ap (λ a. get_or block a 0) (omega arith) ∙ w i low high (omega arith) ∙ ap (λ a. get_or m a 0) (omega arith) in
    let here : get_or block (i + 1) 0 ≡ get_or m (start + i) 0 = w (i + 1) low high (omega arith) ∙ ap (λ a. get_or m a 0) (omega arith) in
    let behind : get_or block (i + 1 + 1) 0 ≡ get_or m (start + i + 1) 0 = w (i + 1 + 1) low high (omega arith) ∙ ap (λ a. get_or m a 0) (omega arith) in
    let same : next_cell_at block (i + 1) ≡ next_cell_at m (start + i) = cc in
    get_or-map-range_with_len (next_cell_at block) 1 (length block - 2) i (i + 1) 0 (omega arith) (omega arith)
    ∙ same
    ∙ sym (get_or-map-range_with_len (next_cell_at m) start count i (start + i) 0 (omega arith) refl))

-- A time step in which the cells before an address are stored, and the word before it was this one.
pub record IsAdvancing (m now : List ℕ) (from word : ℕ) : Type 0 where
  pub low : 1 ≤ from
  pub high : from + 1 ≤ length m
  pub memory : now ≡ stored m 1 (cells_from m 1 (from - 1))
  pub before : word ≡ get_or m (from - 1) 0

-- the words from the address on are as they were
pub words_behind : {m now : List ℕ} {from word : ℕ} → IsAdvancing m now from word → drop from now ≡ drop from m
words_behind {m} {now} {from} {word} h =
    let cells = cells_from m 1 (from - 1) in
    let long : length cells ≡ from - 1 = length-cells_from m 1 (from - 1) in
    let whole : stored m 1 cells ≡ take 1 m ++ cells ++ drop from m = stored-is m 1 cells (omega arith) ∙ ap (λ a. take 1 m ++ cells ++ drop a m) (omega arith) in
    let front : length (take 1 m ++ cells) ≡ from = grind (arith, common_steps) in
    ap (drop from) (h.memory ∙ whole) ∙ ap (λ n. drop n (take 1 m ++ cells ++ drop from m)) (sym front) ∙ drop-append_seam (take 1 m ++ cells) (drop from m)

pub own_cells-stored : (m cells : List ℕ) → length cells ≡ length m - 2 → 3 ≤ length m → own_cells (stored m 1 cells) ≡ cells
own_cells-stored m cells long some =
    let whole = stored-is m 1 cells (omega arith) in
    let same = length-stored m 1 cells in
    ap (λ n. take (n - 2) (drop 1 (stored m 1 cells))) same ∙ ap (λ ws. take (length m - 2) (drop 1 ws)) whole ∙ grind (arith, common_steps)

-- a word behind an address from which two lists are alike
pub get_or-behind : (xs ys : List ℕ) (i k : ℕ) → drop i xs ≡ drop i ys → get_or xs (i + k) 0 ≡ get_or ys (i + k) 0
get_or-behind xs ys i k same = sym (get_or-drop i xs k 0) ∙ ap (λ l. get_or l k 0) same ∙ get_or-drop i ys k 0

-- the sum of the cells with those of one more block
pub sum_more : (m : List ℕ) (start count : ℕ) → 1 ≤ start → sum (take (start + count - 1) (drop 1 m)) ≡ sum (take (start - 1) (drop 1 m)) + sum (take count (drop start m))
sum_more m start count low =
    let parts : start + count - 1 ≡ start - 1 + count = omega arith in
    let from : 1 + (start - 1) ≡ start = omega arith in
    ap (λ n. sum (take n (drop 1 m))) parts
    ∙ ap sum (take-add (start - 1) count (drop 1 m))
    ∙ sum_by-append (λ x. x) (take (start - 1) (drop 1 m)) (take count (drop (start - 1) (drop 1 m)))
    ∙ ap (λ ws. sum (take (start - 1) (drop 1 m)) + sum (take count ws)) (drop-drop (start - 1) 1 m ∙ ap (λ a. drop a m) from)

-- what is computed for a block is what its cells become
pub cells_of_block : {m now : List ℕ} {from word : ℕ} → IsAdvancing m now from word → (count : ℕ) → from + count < length m → next_cells (word ∷ take (count + 1) (drop from now)) ≡ cells_from m from count
cells_of_block {m} {now} {from} {word} h count within =
    ap (λ x. next_cells (x ∷ take (count + 1) (drop from now))) h.before
    ∙ ap (λ ws. next_cells (get_or m (from - 1) 0 ∷ take (count + 1) ws)) (words_behind h)
    ∙ next_cells_of_block m from count h.low within

-- the stores of a block, and those of the cells behind it
pub stores_of_block : (m : List ℕ) (start count end : ℕ) → start + count ≤ end → stores start (cells_from m start (end - start)) ≡ stores start (cells_from m start count) ++ stores (start + count) (cells_from m (start + count) (end - (start + count)))
stores_of_block m start count end within =
    let parts : end - start ≡ count + (end - (start + count)) = omega arith in
    ap (λ n. stores start (cells_from m start n)) parts
    ∙ ap (stores start) (cells_from-append m start count (end - (start + count)))
    ∙ stores-append start (cells_from m start count) (cells_from m (start + count) (end - (start + count)))
    ∙ ap (λ n. stores start (cells_from m start count) ++ stores (start + n) (cells_from m (start + count) (end - (start + count)))) (length-cells_from m start count)

-- once one more block is stored
pub IsAdvancing-block : {m now : List ℕ} {from word : ℕ} → IsAdvancing m now from word → (count : ℕ) (new : List ℕ) (last : ℕ) → 1 ≤ count → from + count < length m
    → new ≡ stored now from (next_cells (word ∷ take (count + 1) (drop from now))) → last ≡ get_or now (from + count - 1) 0
    → IsAdvancing m new (from + count) last
IsAdvancing-block {m} {now} {from} {word} h count new last some within made was =
    let low = h.low in
    let done = cells_from m 1 (from - 1) in
    let place : 1 + length done ≡ from = omega (arith, length-cells_from m 1 (from - 1)) in
    let behind : 1 + (from - 1) ≡ from = omega arith in
    let all : from - 1 + count ≡ from + count - 1 = omega arith in
    let cell : from + (count - 1) ≡ from + count - 1 = omega arith in
    record {
      low = omega arith;
      high = omega arith;
      memory =
          made
          ∙ ap (stored now from) (cells_of_block h count within)
          ∙ ap (λ ws. stored ws from (cells_from m from count)) h.memory
          ∙ ap (λ a. stored (stored m 1 done) a (cells_from m from count)) (sym place)
          ∙ sym (stored-append m 1 done (cells_from m from count))
          ∙ ap (λ a. stored m 1 (done ++ cells_from m a count)) (sym behind)
          ∙ ap (stored m 1) (sym (cells_from-append m 1 (from - 1) count))
          ∙ ap (λ n. stored m 1 (cells_from m 1 n)) all;
      before =
          was ∙ ap (λ a. get_or now a 0) (sym cell) ∙ get_or-behind now m from (count - 1) (words_behind h) ∙ ap (λ a. get_or m a 0) cell;
    }

-- once all cells are stored
pub IsAdvancing-end : {m now : List ℕ} {from word : ℕ} → IsAdvancing m now from word → 3 ≤ length m → length m ≤ from + 1 → own_cells now ≡ next_cells m
IsAdvancing-end {m} {now} {from} {word} h some end =
    let high = h.high in
    let all : from - 1 ≡ length m - 2 = omega arith in
    ap own_cells (h.memory ∙ ap (λ n. stored m 1 (cells_from m 1 n)) all) ∙ own_cells-stored m (next_cells m) (length_of_next_cells m) some

-- a cell of a block between the words before and behind it
pub cell_between : (before behind : ℕ) (cells : List ℕ) (i : ℕ) → i < length cells → get_or (before ∷ cells ++ behind ∷ []) (i + 1) 0 ≡ get_or cells i 0
cell_between before behind cells i inside = grind (arith, common_steps)

-- the word behind it
pub word_behind_cells : (before behind : ℕ) (cells : List ℕ) → get_or (before ∷ cells ++ behind ∷ []) (length cells + 1) 0 ≡ behind
word_behind_cells before behind cells = grind (arith, common_steps)

-- what a block becomes between the words before and behind it
pub cells_between : (memory : List ℕ) (start count before behind : ℕ) → start + count < length memory → behind ≡ get_or memory (start + count) 0
    → next_cells (before ∷ take count (drop start memory) ++ behind ∷ []) ≡ next_cells (before ∷ take (count + 1) (drop start memory))
cells_between memory start count before behind inside there =
    let words : take count (drop start memory) ++ behind ∷ [] ≡ take (count + 1) (drop start memory) = grind (arith, common_steps) in
    ap (λ block. next_cells (before ∷ block)) words

-- a list whose last item is set
pub set_last : (cells : List ℕ) (last value : ℕ) → length cells ≡ last + 1 → slice_set cells last value ≡ take last cells ++ value ∷ []
set_last [] last value long = absurd (omega (arith, long))
set_last (cell ∷ []) zero value long = refl
set_last (cell ∷ next ∷ cells) zero value long = absurd (omega (arith, long))
set_last (cell ∷ cells) (suc last) value long = ap (λ all. cell ∷ all) (set_last cells last value (omega (arith, long)))

pub length-between : (before behind : ℕ) (cells : List ℕ) → length (before ∷ cells ++ behind ∷ []) ≡ length cells + 2
length-between before behind cells = grind (arith, common_steps)
