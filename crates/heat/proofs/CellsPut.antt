-- What the puts of the outer cells write.
use Rattle.std.proofs.Common.{◌≡◌, ◌≤◌, ◌<◌, ◌+◌, ◌-◌, ◌∙◌, ℕ, zero, suc, List, [], length, get_or, arith, ap, sym, inl, inr}
use Rattle.std.proofs.lemmas.Bool.{cases_eq, cases_lt}
use Rattle.bsp_step.specs.OutcomeParts.{OutcomeParts}
use Rattle.bsp_right.proofs.RowPuts.{AllPutInRow, row_written-above, row_written-below, row_written-beside}
use Rattle.bsp_right.proofs.WordsWritten.{written_by}
use Rattle.heat.specs.Heat.{own_cells}
use Rattle.heat.specs.Cells.{length_of_own_cells, own_cell}
use Rattle.heat.specs.Rod.{cells_below, piece_of}
use Rattle.heat.proofs.Pieces.{AreDealt, Hold, cells_below-more, word-piece_of}

-- the address of the word for the process below, and of the one for the process above
abbrev pub first_address : ℕ → ℕ
first_address p = 0

abbrev pub last_address : List (List ℕ) → ℕ → ℕ
last_address mems p = length (get_or mems p []) - 1

-- the outer cells of a process
abbrev pub first_cell : List ℕ → ℕ
first_cell memory = get_or (own_cells memory) 0 0

abbrev pub last_cell : List ℕ → ℕ
last_cell memory = get_or (own_cells memory) (length (own_cells memory) - 1) 0

last_cell-is : (memory : List ℕ) → 3 ≤ length memory → last_cell memory ≡ get_or memory (length memory - 2) 0
last_cell-is memory some =
    let last : ℕ = length memory - 3 in
    let at : length (own_cells memory) - 1 ≡ last = omega (arith, length_of_own_cells memory) in
    let up : last + 1 ≡ length memory - 2 = omega arith in
    ap (λ k. get_or (own_cells memory) k 0) at ∙ own_cell memory last (omega arith) ∙ ap (λ k. get_or memory k 0) up

-- outcomes in which each process puts its outer cells
abbrev pub AllPutCells : List (List ℕ) → (ℕ → List ℕ) → (ℕ → OutcomeParts) → Type 0
AllPutCells mems memory out = AllPutInRow (length mems) first_address (last_address mems) (λ p. first_cell (memory p)) (λ p. last_cell (memory p)) out

first_word : (mems : List (List ℕ)) (rod : List ℕ) (memory : ℕ → List ℕ) (out : ℕ → OutcomeParts) → AreDealt mems → Hold mems rod memory → AllPutCells mems memory out → (d : ℕ) → d < length mems
    → written_by d 0 out 0 (length mems) (get_or (memory d) 0 0) ≡ get_or rod (cells_below mems d + 0) 0
first_word mems rod memory out dealt h puts zero l =
    row_written-beside (length mems) first_address (last_address mems) (λ p. first_cell (memory p)) (λ p. last_cell (memory p)) out puts 0 0 (get_or (memory 0) 0 0) (λ e. absurd (omega arith)) (λ _ e. omega (arith, e, dealt.words 0 l))
    ∙ h.first
first_word mems rod memory out dealt h puts (suc p) l =
    let d : ℕ = suc p in
    let back : d - 1 ≡ p = omega arith in
    let below : ℕ = length (get_or mems p []) - 2 in
    let some : 3 ≤ length (get_or mems p []) = dealt.words p (omega arith) in
    let size : length (memory p) ≡ length (get_or mems p []) = h.lengths p (omega arith) in
    let up : p + 1 ≡ d = omega arith in
    let next : cells_below mems (p + 1) ≡ cells_below mems d = ap (cells_below mems) up in
    let at : cells_below mems p + below ≡ cells_below mems d + 0 = omega (arith, next, cells_below-more mems p (omega arith)) in
    row_written-below (length mems) first_address (last_address mems) (λ q. first_cell (memory q)) (λ q. last_cell (memory q)) out puts d (get_or (memory d) 0 0) (omega arith) l (λ e. omega (arith, e, dealt.words d l))
    ∙ ap (λ q. last_cell (memory q)) back
    ∙ last_cell-is (memory p) (omega arith)
    ∙ ap (λ k. get_or (memory p) (k - 2) 0) size
    ∙ h.cells p below (omega arith) (omega arith) (omega arith)
    ∙ ap (λ k. get_or rod k 0) at

last_word : (mems : List (List ℕ)) (rod : List ℕ) (memory : ℕ → List ℕ) (out : ℕ → OutcomeParts) → AreDealt mems → Hold mems rod memory → AllPutCells mems memory out → (d : ℕ) → d < length mems
    → written_by d (last_address mems d) out 0 (length mems) (get_or (memory d) (last_address mems d) 0) ≡ get_or rod (cells_below mems d + last_address mems d) 0
last_word mems rod memory out dealt h puts d l =
    let a : ℕ = last_address mems d in
    let some : 3 ≤ length (get_or mems d []) = dealt.words d l in
    elim (cases_lt (d + 1) (length mems)) [
      | inl more ↦
          let m : List ℕ = memory (d + 1) in
          let long : 3 ≤ length (get_or mems (d + 1) []) = dealt.words (d + 1) more in
          let size : length m ≡ length (get_or mems (d + 1) []) = h.lengths (d + 1) more in
          let at : cells_below mems (d + 1) + 1 ≡ cells_below mems d + a = omega (arith, cells_below-more mems d l) in
          row_written-above (length mems) first_address (last_address mems) (λ q. first_cell (memory q)) (λ q. last_cell (memory q)) out puts d (get_or (memory d) a 0) more
          ∙ own_cell m 0 (omega arith)
          ∙ h.cells (d + 1) 1 more (omega arith) (omega arith)
          ∙ ap (λ k. get_or rod k 0) at
      | inr end ↦
          row_written-beside (length mems) first_address (last_address mems) (λ q. first_cell (memory q)) (λ q. last_cell (memory q)) out puts d a (get_or (memory d) a 0) (λ _ e. omega (arith, e)) (λ e. absurd (omega arith))
          ∙ h.last d (omega arith)
    ]

-- Word by word after the delivery: each process holds its piece of the rod.
pub cells_put : (mems : List (List ℕ)) (rod : List ℕ) (memory : ℕ → List ℕ) (out : ℕ → OutcomeParts) → AreDealt mems → Hold mems rod memory → AllPutCells mems memory out → (d a : ℕ) → d < length mems → a < length (get_or mems d [])
    → written_by d a out 0 (length mems) (get_or (memory d) a 0) ≡ get_or (piece_of mems rod d) a 0
cells_put mems rod memory out dealt h puts d a l m =
    let some : 3 ≤ length (get_or mems d []) = dealt.words d l in
    elim (cases_eq a 0) [
      | inl none ↦
          ap (λ k. written_by d k out 0 (length mems) (get_or (memory d) k 0)) none
          ∙ first_word mems rod memory out dealt h puts d l
          ∙ ap (λ k. get_or rod (cells_below mems d + k) 0) (sym none)
      | inr not_first ↦
          elim (cases_eq a (last_address mems d)) [
            | inl end ↦
                ap (λ k. written_by d k out 0 (length mems) (get_or (memory d) k 0)) end
                ∙ last_word mems rod memory out dealt h puts d l
                ∙ ap (λ k. get_or rod (cells_below mems d + k) 0) (sym end)
            | inr not_last ↦
                let positive : 1 ≤ a = grind arith in
                let before : a + 1 < length (get_or mems d []) = grind arith in
                row_written-beside (length mems) first_address (last_address mems) (λ q. first_cell (memory q)) (λ q. last_cell (memory q)) out puts d a (get_or (memory d) a 0) (λ _ e. not_first (sym e)) (λ _ e. not_last (sym e))
                ∙ h.cells d a l positive before
          ]
    ] ∙ sym (word-piece_of mems rod d a m)
