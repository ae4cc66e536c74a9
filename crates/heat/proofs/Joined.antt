-- The cells of all memories, one after the other, are those of the rod.
use Rattle.std.proofs.Common.{◌≡◌, ◌≤◌, ◌<◌, ◌+◌, ◌-◌, ◌++◌, ◌∙◌, ℕ, zero, suc, List, [], ◌∷◌, map, length, get_or, take, drop, length-append, arith, ap, sym, inl, inr}
use Rattle.std.specs.List.{flat_map, range_with_len}
use Rattle.std.proofs.lemmas.Bool.{cases_lt}
use Rattle.std.proofs.lemmas.List.{drop-drop, drop-take, ext_get_or, get_or_append_left, get_or_at, take-append-drop, take-take, take_all, take_more}
use Rattle.std.proofs.lemmas.Grind.{same_number_lists}
use Rattle.std.proofs.lemmas.List.FromFn.{get_or-map-range_with_len, length-map-range_with_len}
use Rattle.bsp_deliver.specs.Requests.{each_below}
use Rattle.heat.specs.Heat.{own_cells}
use Rattle.heat.specs.Cells.{length_of_own_cells, own_cell}
use Rattle.heat.specs.Rod.{cells_below, cells_between, last_word, piece_of, rod_of}
use Rattle.heat.proofs.Pieces.{AreDealt, Hold, cells_below-le, cells_below-more, length-piece_of, word-piece_of}

-- The cells of a process are those of its piece.
pub own_cells-held : (mems : List (List ℕ)) (rod : List ℕ) (memory : ℕ → List ℕ) (p : ℕ) → AreDealt mems → Hold mems rod memory → p < length mems → own_cells (memory p) ≡ own_cells (piece_of mems rod p)
own_cells-held mems rod memory p dealt h l =
    let size : length (memory p) ≡ length (get_or mems p []) = h.lengths p l in
    let held = memory p in
    let piece = piece_of mems rod p in
    let long : length held ≡ length piece = size ∙ sym (length-piece_of mems rod p dealt h.long l) in
    same_number_lists (own_cells held) (own_cells piece) (length_of_own_cells held ∙ ap (λ len. len - 2) long ∙ sym (length_of_own_cells piece)) (λ k within.
    let here : k < length held - 2 = omega (arith, length_of_own_cells held) in
    own_cell held k here ∙ h.cells p (k + 1) l (omega arith) (omega arith) ∙ sym (word-piece_of mems rod p (k + 1) (omega arith)) ∙ sym (own_cell piece k (omega (arith, long))))

take_parts : (i j : ℕ) (xs : List ℕ) → take (i + j) xs ≡ take i xs ++ take j (drop i xs)
take_parts i j xs =
    sym (take-append-drop i (take (i + j) xs)) ∙ (λ k. take-take i (i + j) xs (omega arith) k ++ drop-take i j xs k)

-- the cells of a piece as a part of the rod
cells-piece_of : (mems : List (List ℕ)) (rod : List ℕ) (p : ℕ) → AreDealt mems → length rod ≡ cells_below mems (length mems) + 2 → p < length mems
    → own_cells (piece_of mems rod p) ≡ take (length (get_or mems p []) - 2) (drop (cells_below mems p + 1) rod)
cells-piece_of mems rod p dealt long l =
    let len : ℕ = length (get_or mems p []) in
    let from : List ℕ = drop (cells_below mems p) rod in
    let some : 3 ≤ len = dealt.words p l in
    let split : len ≡ 1 + (len - 1) = omega arith in
    ap (λ k. take (k - 2) (drop 1 (piece_of mems rod p))) (length-piece_of mems rod p dealt long l)
    ∙ ap (λ k. take (len - 2) (drop 1 (take k from))) split
    ∙ ap (take (len - 2)) (drop-take 1 (len - 1) from)
    ∙ take-take (len - 2) (len - 1) (drop 1 from) (omega arith)
    ∙ ap (take (len - 2)) (drop-drop 1 (cells_below mems p) rod)

cells-joined : (mems : List (List ℕ)) (rod : List ℕ) (memory : ℕ → List ℕ) → AreDealt mems → Hold mems rod memory → (m k : ℕ) → k + m ≤ length mems
    → flat_map own_cells (map memory (range_with_len k m)) ≡ take (cells_below mems (k + m) - cells_below mems k) (drop (cells_below mems k + 1) rod)
cells-joined mems rod memory dealt h zero k l =
    let same : cells_below mems (k + zero) ≡ cells_below mems k = ap (cells_below mems) (omega arith) in
    let none : 0 ≡ cells_below mems (k + zero) - cells_below mems k = omega arith in
    ap (λ j. take j (drop (cells_below mems k + 1) rod)) none
cells-joined mems rod memory dealt h (suc m) k l =
    let from : List ℕ = drop (cells_below mems k + 1) rod in
    let own : ℕ = length (get_or mems k []) - 2 in
    let more : cells_below mems (k + 1) ≡ cells_below mems k + own = cells_below-more mems k (omega arith) in
    let end : cells_below mems (k + 1 + m) ≡ cells_below mems (k + suc m) = ap (cells_below mems) (omega arith) in
    let later : ℕ = cells_below mems (k + 1 + m) - cells_below mems (k + 1) in
    let first : own_cells (memory k) ≡ take own from = own_cells-held mems rod memory k dealt h (omega arith) ∙ cells-piece_of mems rod k dealt h.long (omega arith) in
    let place : cells_below mems (k + 1) + 1 ≡ cells_below mems k + 1 + own = omega arith in
    let rest : flat_map own_cells (map memory (range_with_len (k + 1) m)) ≡ take later (drop own from) =
    cells-joined mems rod memory dealt h m (k + 1) (omega arith)
    ∙ ap (λ j. take later (drop j rod)) place
    ∙ ap (take later) (sym (drop-drop own (cells_below mems k + 1) rod)) in
    let grows : cells_below mems (k + 1) ≤ cells_below mems (k + 1 + m) = cells_below-le mems (k + 1) m (omega arith) in
    let total : own + later ≡ cells_below mems (k + suc m) - cells_below mems k = omega arith in
    (λ i. first i ++ rest i) ∙ sym (take_parts own later from) ∙ ap (λ j. take j from) total

-- a list is its first element, those between, and its last
ends_joined : (c : ℕ) (xs : List ℕ) → length xs ≡ c + 2 → get_or xs 0 0 ∷ take c (drop 1 xs) ++ get_or xs (c + 1) 0 ∷ [] ≡ xs
ends_joined c [] e = absurd (omega arith)
ends_joined c (x ∷ xs) e =
    let last : c + 1 ≡ suc c = omega arith in
    ap (λ k. x ∷ take c xs ++ get_or (x ∷ xs) k 0 ∷ []) last
    ∙ ap (λ (ys : List ℕ). x ∷ ys) (sym (take_more xs c 0 (omega arith)) ∙ take_all (c + 1) xs (omega arith))

-- The rod in one piece that is dealt to memories which hold the cells of a rod is that rod.
pub rod_of-held : (mems : List (List ℕ)) (rod : List ℕ) (memory : ℕ → List ℕ) → AreDealt mems → Hold mems rod memory → rod_of (each_below (length mems) memory) ≡ rod
rod_of-held mems rod memory dealt h =
    let n : ℕ = length mems in
    let left : List (List ℕ) = each_below n memory in
    let p : ℕ = n - 1 in
    let here : p + 1 ≡ n = omega (arith, dealt.some) in
    let number : length left ≡ n = length-map-range_with_len memory 0 n in
    let first : get_or (get_or left 0 []) 0 0 ≡ get_or rod 0 0 = ap (λ (m : List ℕ). get_or m 0 0) (get_or-map-range_with_len memory 0 n 0 0 [] dealt.some (omega arith)) ∙ h.first in
    let all : 0 + n ≡ n = omega arith in
    let total : cells_below mems (0 + n) - 0 ≡ cells_below mems n = (let e : cells_below mems (0 + n) ≡ cells_below mems n = ap (cells_below mems) all in omega arith) in
    let joined : flat_map own_cells left ≡ take (cells_below mems n) (drop 1 rod) = cells-joined mems rod memory dealt h n 0 (omega arith) ∙ ap (λ k. take k (drop 1 rod)) total in
    let more : cells_below mems (p + 1) ≡ cells_below mems n = ap (cells_below mems) here in
    let end : cells_below mems p + (length (get_or mems p []) - 1) ≡ cells_below mems n + 1 = omega (arith, more, cells_below-more mems p (omega arith), dealt.words p (omega arith)) in
    let last : last_word (get_or left (length left - 1) []) ≡ get_or rod (cells_below mems n + 1) 0 =
    ap (λ k. last_word (get_or left (k - 1) [])) number
    ∙ ap last_word (get_or-map-range_with_len memory 0 n p p [] (omega arith) (omega arith))
    ∙ ap (λ k. get_or (memory p) (k - 1) 0) (h.lengths p (omega arith))
    ∙ h.last p here
    ∙ ap (λ k. get_or rod k 0) end in
    (λ i. first i ∷ joined i ++ last i ∷ []) ∙ ends_joined (cells_below mems n) rod h.long

-- a memory whose outer words are those of the one list, and whose cells are those of the other
pub is_between : (memory outer words : List ℕ) → 3 ≤ length memory → length outer ≡ length memory → length words ≡ length memory → get_or memory 0 0 ≡ get_or outer 0 0 → get_or memory (length memory - 1) 0 ≡ get_or outer (length memory - 1) 0
    → ((a : ℕ) → 1 ≤ a → a + 1 < length memory → get_or memory a 0 ≡ get_or words a 0) → memory ≡ cells_between outer words
is_between [] outer words some same_outer same_words first last cells = absurd (omega arith)
is_between (x ∷ xs) outer words some same_outer same_words first last cells =
    let own : List ℕ = own_cells words in
    let end : ℕ = last_word outer in
    let number : length own ≡ length words - 2 = length_of_own_cells words in
    let size : length xs ≡ length (own ++ end ∷ []) = omega (arith, length-append own (end ∷ [])) in
    let rest : xs ≡ own ++ end ∷ [] =
    ext_get_or 0 xs (own ++ end ∷ []) size (λ k l.
    elim (cases_lt k (length own)) [
      | inl less ↦
          let up : suc k ≡ k + 1 = omega arith in
          cells (suc k) (omega arith) (omega arith)
          ∙ ap (λ j. get_or words j 0) up
          ∙ sym (get_or_append_left own (end ∷ []) 0 k less ∙ own_cell words k (omega arith))
      | inr more ↦
          let at : length own ≡ k = omega arith in
          let here : suc k ≡ length (x ∷ xs) - 1 = omega arith in
          let same : length (x ∷ xs) - 1 ≡ length outer - 1 = omega arith in
          ap (λ j. get_or (x ∷ xs) j 0) here ∙ last ∙ ap (λ j. get_or outer j 0) same ∙ sym (get_or_at own end [] 0 k at)
    ]) in
    λ i. first i ∷ rest i
