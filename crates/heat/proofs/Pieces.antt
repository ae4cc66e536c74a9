-- Memories that hold the cells of a rod.
use Rattle.std.proofs.Common.{◌≡◌, ◌≤◌, ◌<◌, ◌+◌, ◌-◌, ◌==◌, ◌||◌, ◌∙◌, ℕ, zero, suc, true, false, cond, List, [], ◌∷◌, length, get_or, take, drop, length-append, arith, ap, refl, sym}
use Rattle.std.specs.List.{flat_map}
use Rattle.std.proofs.lemmas.Bool.Decides.{nat_tests}
use Rattle.std.proofs.lemmas.List.{append-nil, get_or-drop, get_or-take, get_or_append_left, get_or_at, length-drop, length-take-le, take_all, take_more}
use Rattle.std.proofs.lemmas.List.Concat.{flat_map-append, get_or-flat_map}
use Rattle.std.proofs.lemmas.List.FromFn.{get_or-map-range_with_len, length-map-range_with_len}
use Rattle.bsp_deliver.specs.Requests.{each_below}
use Rattle.bsp_right.proofs.ActsPerformed.{stored, length-stored, stored_after, stored_before, stored_within}
use Rattle.heat.specs.Heat.{next_cell, next_cell_at, own_cells}
use Rattle.heat.specs.Cells.{length_of_own_cells, own_cell}
use Rattle.heat.specs.Rod.{cells_below, last_word, piece_of, rod_of, word_later}

-- memories of three words or more, of one process at least
pub record AreDealt (mems : List (List ℕ)) : Type 0 where
  pub some : 1 ≤ length mems
  pub words : (p : ℕ) → p < length mems → 3 ≤ length (get_or mems p [])

pub cells_below-more : (mems : List (List ℕ)) (p : ℕ) → p < length mems → cells_below mems (p + 1) ≡ cells_below mems p + (length (get_or mems p []) - 2)
cells_below-more mems p l =
    let m : List ℕ = get_or mems p [] in
    let one : flat_map own_cells (m ∷ []) ≡ own_cells m = append-nil (own_cells m) in
    ap (λ ms. length (flat_map own_cells ms)) (take_more mems p [] l)
    ∙ ap (λ (ws : List ℕ). length ws) (flat_map-append own_cells (take p mems) (m ∷ []))
    ∙ length-append (flat_map own_cells (take p mems)) (flat_map own_cells (m ∷ []))
    ∙ ap (λ (ws : List ℕ). cells_below mems p + length ws) one
    ∙ ap (λ k. cells_below mems p + k) (length_of_own_cells m)

cells_below-all : (mems : List (List ℕ)) → cells_below mems (length mems) ≡ length (flat_map own_cells mems)
cells_below-all mems = ap (λ ms. length (flat_map own_cells ms)) (take_all (length mems) mems (omega arith))

pub cells_below-le : (mems : List (List ℕ)) (p m : ℕ) → p + m ≤ length mems → cells_below mems p ≤ cells_below mems (p + m)
cells_below-le mems p zero l = let e : cells_below mems p ≡ cells_below mems (p + zero) = ap (cells_below mems) (omega arith) in omega arith
cells_below-le mems p (suc m) l =
    let e : cells_below mems (p + suc m) ≡ cells_below mems (p + m + 1) = ap (cells_below mems) (omega arith) in
    omega (arith, e, cells_below-more mems (p + m) (omega arith), cells_below-le mems p m (omega arith))

pub length-rod_of : (mems : List (List ℕ)) → length (rod_of mems) ≡ cells_below mems (length mems) + 2
length-rod_of mems =
    let last : ℕ = last_word (get_or mems (length mems - 1) []) in
    omega (arith, length-append (flat_map own_cells mems) (last ∷ []), cells_below-all mems)

-- a piece lies within the rod
pub piece-within : (mems : List (List ℕ)) (p : ℕ) → AreDealt mems → p < length mems → cells_below mems p + length (get_or mems p []) ≤ cells_below mems (length mems) + 2
piece-within mems p dealt l =
    let rest : ℕ = length mems - (p + 1) in
    let e : cells_below mems (p + 1 + rest) ≡ cells_below mems (length mems) = ap (cells_below mems) (omega arith) in
    omega (arith, e, cells_below-more mems p l, cells_below-le mems (p + 1) rest (omega arith), dealt.words p l)

pub length-piece_of : (mems : List (List ℕ)) (rod : List ℕ) (p : ℕ) → AreDealt mems → length rod ≡ cells_below mems (length mems) + 2 → p < length mems → length (piece_of mems rod p) ≡ length (get_or mems p [])
length-piece_of mems rod p dealt long l =
    length-take-le (length (get_or mems p [])) (drop (cells_below mems p) rod) (omega (arith, length-drop (cells_below mems p) rod, piece-within mems p dealt l))

pub word-piece_of : (mems : List (List ℕ)) (rod : List ℕ) (p a : ℕ) → a < length (get_or mems p []) → get_or (piece_of mems rod p) a 0 ≡ get_or rod (cells_below mems p + a) 0
word-piece_of mems rod p a l =
    get_or-take (length (get_or mems p [])) (drop (cells_below mems p) rod) a 0 l ∙ get_or-drop (cells_below mems p) rod a 0

-- Memories that hold the cells of a rod, and its ends. The words between two processes may be any.
pub record Hold (mems : List (List ℕ)) (rod : List ℕ) (memory : ℕ → List ℕ) : Type 0 where
  pub long : length rod ≡ cells_below mems (length mems) + 2
  pub lengths : (p : ℕ) → p < length mems → length (memory p) ≡ length (get_or mems p [])
  pub cells : (p a : ℕ) → p < length mems → 1 ≤ a → a + 1 < length (get_or mems p []) → get_or (memory p) a 0 ≡ get_or rod (cells_below mems p + a) 0
  pub first : get_or (memory 0) 0 0 ≡ get_or rod 0 0
  pub last : (p : ℕ) → p + 1 ≡ length mems → get_or (memory p) (length (get_or mems p []) - 1) 0 ≡ get_or rod (cells_below mems p + (length (get_or mems p []) - 1)) 0

-- Those to which it is dealt hold its cells.
pub Hold-dealt : (mems : List (List ℕ)) → AreDealt mems → Hold mems (rod_of mems) (λ p. get_or mems p [])
Hold-dealt mems dealt =
    let all : List ℕ = flat_map own_cells mems in
    let end : ℕ = last_word (get_or mems (length mems - 1) []) in
    record {
      long = length-rod_of mems;
      lengths = λ p l. refl;
      cells = λ p a l some before.
          let m : List ℕ = get_or mems p [] in
          let b : ℕ = a - 1 in
          let at : suc (cells_below mems p + b) ≡ cells_below mems p + a = omega arith in
          let here : b + 1 ≡ a = omega arith in
          let within : cells_below mems p + b < length all = omega (arith, cells_below-all mems, piece-within mems p dealt l) in
          let piece : get_or all (cells_below mems p + b) 0 ≡ get_or (own_cells m) b 0 = get_or-flat_map own_cells mems p b [] 0 l (omega (arith, length_of_own_cells m)) in
          sym (ap (λ k. get_or (rod_of mems) k 0) (sym at)
          ∙ get_or_append_left all (end ∷ []) 0 (cells_below mems p + b) within
          ∙ piece
          ∙ own_cell m b (omega arith)
          ∙ ap (λ k. get_or m k 0) here);
      first = refl;
      last = λ p e.
          let m : List ℕ = get_or mems p [] in
          let same : p ≡ length mems - 1 = omega arith in
          let more : cells_below mems (p + 1) ≡ length all = ap (cells_below mems) e ∙ cells_below-all mems in
          let at : cells_below mems p + (length m - 1) ≡ suc (length all) = omega (arith, more, cells_below-more mems p (omega arith), dealt.words p (omega arith)) in
          ap (λ k. last_word (get_or mems k [])) same
          ∙ sym (ap (λ k. get_or (rod_of mems) k 0) at ∙ get_or_at all end [] 0 (length all) refl);
    }

-- a memory after a time step
abbrev pub stepped : List ℕ → List ℕ
stepped memory = stored (next_cell_at memory) 1 (length memory - 2) memory

-- a rod after a time step
abbrev pub rod_later : List ℕ → List ℕ
rod_later rod = each_below (length rod) (word_later rod)

word-later : (rod : List ℕ) (i : ℕ) → i < length rod → get_or (rod_later rod) i 0 ≡ word_later rod i
word-later rod i l = get_or-map-range_with_len (word_later rod) 0 (length rod) i i 0 l (omega arith)

cell-later : (rod : List ℕ) (i : ℕ) → 1 ≤ i → i + 1 < length rod → get_or (rod_later rod) i 0 ≡ next_cell (get_or rod (i - 1) 0) (get_or rod i 0) (get_or rod (i + 1) 0)
cell-later rod i some before =
    let inside : ((i == 0) || ((i + 1) == length rod)) ≡ false = grind (arith, nat_tests) in
    word-later rod i (omega arith)
    ∙ ap (λ b. cond b (get_or rod i 0) (next_cell (get_or rod (i - 1) 0) (get_or rod i 0) (get_or rod (i + 1) 0))) inside

end-later : (rod : List ℕ) (i : ℕ) → ((i == 0) || ((i + 1) == length rod)) ≡ true → i < length rod → get_or (rod_later rod) i 0 ≡ get_or rod i 0
end-later rod i outside l =
    word-later rod i l ∙ ap (λ b. cond b (get_or rod i 0) (next_cell (get_or rod (i - 1) 0) (get_or rod i 0) (get_or rod (i + 1) 0))) outside

-- the words of a piece after a time step
stepped-piece_of : (mems : List (List ℕ)) (rod : List ℕ) (p a : ℕ) → AreDealt mems → length rod ≡ cells_below mems (length mems) + 2 → p < length mems → 1 ≤ a → a + 1 < length (get_or mems p [])
    → get_or (stepped (piece_of mems rod p)) a 0 ≡ get_or (rod_later rod) (cells_below mems p + a) 0
stepped-piece_of mems rod p a dealt long l some before =
    let m : List ℕ = piece_of mems rod p in
    let k : ℕ = cells_below mems p in
    let size : length m ≡ length (get_or mems p []) = length-piece_of mems rod p dealt long l in
    let word : (b : ℕ) → b < length (get_or mems p []) → get_or m b 0 ≡ get_or rod (k + b) 0 = word-piece_of mems rod p in
    let below : get_or m (a - 1) 0 ≡ get_or rod (k + a - 1) 0 = word (a - 1) (omega arith) ∙ ap (λ j. get_or rod j 0) (omega arith) in
    let own : get_or m a 0 ≡ get_or rod (k + a) 0 = word a (omega arith) in
    let above : get_or m (a + 1) 0 ≡ get_or rod (k + a + 1) 0 = word (a + 1) (omega arith) ∙ ap (λ j. get_or rod j 0) (omega arith) in
    let became : next_cell_at m a ≡ next_cell (get_or rod (k + a - 1) 0) (get_or rod (k + a) 0) (get_or rod (k + a + 1) 0) = cc in
    stored_within (next_cell_at m) 1 (length m - 2) m a (omega arith) some (omega arith)
    ∙ became
    ∙ sym (cell-later rod (k + a) (omega arith) (omega (arith, piece-within mems p dealt l)))

-- Where they held all words of their pieces, after a time step they hold the cells of the rod a time step later.
pub Hold-stepped : (mems : List (List ℕ)) (rod : List ℕ) → AreDealt mems → length rod ≡ cells_below mems (length mems) + 2 → Hold mems (rod_later rod) (λ p. stepped (piece_of mems rod p))
Hold-stepped mems rod dealt long =
    let size : (p : ℕ) → p < length mems → length (piece_of mems rod p) ≡ length (get_or mems p []) = λ p l. length-piece_of mems rod p dealt long l in
    record {
      long = length-map-range_with_len (word_later rod) 0 (length rod) ∙ long;
      lengths = λ p l. length-stored (next_cell_at (piece_of mems rod p)) 1 (length (piece_of mems rod p) - 2) (piece_of mems rod p) ∙ size p l;
      cells = λ p a l some before. stepped-piece_of mems rod p a dealt long l some before;
      first =
          let m : List ℕ = piece_of mems rod 0 in
          stored_before (next_cell_at m) 1 (length m - 2) m 0 (omega arith)
          ∙ word-piece_of mems rod 0 0 (omega (arith, dealt.words 0 dealt.some))
          ∙ sym (end-later rod 0 refl (omega arith));
      last = λ p e.
          let m : List ℕ = piece_of mems rod p in
          let l : p < length mems = omega arith in
          let a : ℕ = length (get_or mems p []) - 1 in
          let at : cells_below mems p + a + 1 ≡ length rod =
          (let more : cells_below mems (p + 1) ≡ cells_below mems (length mems) = ap (cells_below mems) e in omega (arith, more, cells_below-more mems p l, dealt.words p l)) in
          let outside : (((cells_below mems p + a) == 0) || ((cells_below mems p + a + 1) == length rod)) ≡ true = grind (arith, nat_tests) in
          stored_after (next_cell_at m) 1 (length m - 2) m a (omega (arith, size p l, dealt.words p l))
          ∙ word-piece_of mems rod p a (omega (arith, dealt.words p l))
          ∙ sym (end-later rod (cells_below mems p + a) outside (omega arith));
    }
