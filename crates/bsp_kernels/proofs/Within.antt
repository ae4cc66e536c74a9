-- Two memories at the addresses of a block.
use Rattle.std.proofs.Common.{◌≡◌, ◌<◌, ◌≤◌, ◌+◌, ◌-◌, ℕ, Bool, true, List, length, get_or, take, drop, min, arith, sym, ap, ◌∙◌, length-take, length-drop}
use Rattle.std.specs.Bool.{Decides}
use Rattle.std.specs.Prelude.{nat_le, nat_lt}
use Rattle.std.proofs.lemmas.Bool.{leb-true, le-leb}
use Rattle.std.proofs.lemmas.Bool.Decides.{Decides-and, Decides-ltb, Decides-like, same_from_decides}
use Rattle.std.proofs.lemmas.Grind.{same_number_lists}
use Rattle.std.proofs.lemmas.List.{get_or-take, get_or-drop}
use Rattle.bsp_step.specs.Footprint.{same_where_looked_at}
use Rattle.bsp_step.proofs.WhereLookedAt.{Decides-where_looked_at}
use Rattle.bsp_kernels.specs.Known.{within}

Decides-within : (from len a : ℕ) → Decides (within from len a) ((from ≤ a) × (a < from + len))
Decides-within from len a = Decides-and (nat_le from a) (nat_lt a (from + len)) (leb-true from a, le-leb from a) (Decides-ltb a (from + len))

-- the words of a block that begins at `start`, as far as the memory goes
word_of_block : (m : List ℕ) (start count a : ℕ) → start ≤ a → a < start + count → get_or (take count (drop start m)) (a - start) 0 ≡ get_or m a 0
word_of_block m start count a low high =
    let at : start + (a - start) ≡ a = omega arith in
    get_or-take count (drop start m) (a - start) 0 (omega arith) ∙ get_or-drop start m (a - start) 0 ∙ ap (λ (k : ℕ). get_or m k 0) at

-- equal blocks, and equal words at the addresses of the block
pub same-within : (m n : List ℕ) (from len start count : ℕ) (same : Bool) → length m ≡ length n → start ≡ min from (length m) → count ≡ min len (length m - start) → Decides same (take count (drop start m) ≡ take count (drop start n)) → same ≡ same_where_looked_at (within from len) m n
same-within m n from len start count same long first few decides =
    let before = take count (drop start m) in
    let after = take count (drop start n) in
    let fact : ℕ → Type 0 = λ a. get_or m a 0 ≡ get_or n a 0 in
    let count_of : length before ≡ min count (length m - start) = length-take count (drop start m) ∙ ap (λ (k : ℕ). min count k) (length-drop start m) in
    let other_count : length after ≡ min count (length n - start) = length-take count (drop start n) ∙ ap (λ (k : ℕ). min count k) (length-drop start n) in
    same_from_decides same (same_where_looked_at (within from len) m n)
    (Decides-like same
    (λ (e : before ≡ after). λ (a : ℕ) (l : a < length m) (k : within from len a ≡ true).
    let there = (Decides-within from len a).0 k in
    let low : start ≤ a = omega (arith, first, there.0, l) in
    let high : a < start + count = omega (arith, first, few, there.0, there.1, l) in
    sym (word_of_block m start count a low high) ∙ ap (λ (ws : List ℕ). get_or ws (a - start) 0) e ∙ word_of_block n start count a low high)
    (λ (h : (a : ℕ) → a < length m → within from len a ≡ true → fact a).
    same_number_lists before after (count_of ∙ ap (λ (k : ℕ). min count (k - start)) long ∙ sym other_count) (λ k l.
    let inside : start + k < length m = omega (arith, first, few, count_of, l) in
    let low : from ≤ start + k = omega (arith, first, few, count_of, l) in
    let high : start + k < from + len = omega (arith, first, few, count_of, l) in
    let back : start + k - start ≡ k = omega arith in
    let here : start + k < start + count = omega (arith, count_of, l) in
    let read : (xs : List ℕ) → get_or (take count (drop start xs)) k 0 ≡ get_or xs (start + k) 0 =
    λ xs. ap (λ (j : ℕ). get_or (take count (drop start xs)) j 0) (sym back) ∙ word_of_block xs start count (start + k) (omega arith) here in
    read m ∙ h (start + k) inside ((Decides-within from len (start + k)).1 (low, high)) ∙ sym (read n)))
    decides)
    (Decides-where_looked_at (within from len) m n)
