-- Lists joined over numbers in order.
use Rattle.std.proofs.Common.{◌≡◌, ◌≤◌, ◌<◌, ◌+◌, ◌-◌, ◌*◌, ◌∙◌, ◌++◌, ℕ, zero, suc, List, [], length, take, drop, All, ap, sym, refl, append_assoc, arith, inl, inr}
use Rattle.std.proofs.Math.Nat.{div-add-mod, mod-lt}
use Rattle.std.specs.List.{flat_map, range_with_len}
use Rattle.std.proofs.lemmas.Bool.{cases_lt}
use Rattle.std.proofs.lemmas.List.{append-nil, drop_all, length-take}
use Rattle.std.proofs.lemmas.List.FromFn.{get_or-map-range_with_len, length-map-range_with_len}
use Rattle.std.proofs.lemmas.List.Folds.{drop_split, flat_map-map}
use Rattle.bsp_model.specs.Limits.{most_line_words, most_lines}
use Rattle.bsp_collectives.specs.Halves.{block, block_size, lines}

-- two functions that agree on the numbers
pub flat_map-agree : {X : Type 0} (f g : ℕ → List X) (k n : ℕ) → ((p : ℕ) → k ≤ p → p < k + n → f p ≡ g p) → flat_map f (range_with_len k n) ≡ flat_map g (range_with_len k n)
flat_map-agree f g k zero same = refl
flat_map-agree f g k (suc n) same =
    λ i. same k (omega arith) (omega arith) i ++ flat_map-agree f g (k + 1) n (λ p low high. same p (omega arith) (omega arith)) i

-- where there is nothing at any of them
pub flat_map-none : {X : Type 0} (f : ℕ → List X) (k n : ℕ) → ((p : ℕ) → k ≤ p → p < k + n → f p ≡ []) → flat_map f (range_with_len k n) ≡ []
flat_map-none f k zero none = refl
flat_map-none f k (suc n) none =
    ap (λ xs. xs ++ flat_map f (range_with_len (k + 1) n)) (none k (omega arith) (omega arith))
    ∙ flat_map-none f (k + 1) n (λ p low high. none p (omega arith) (omega arith))

-- where there is nothing past the first m
pub flat_map-first : {X : Type 0} (f : ℕ → List X) (k m n : ℕ) → m ≤ n → ((p : ℕ) → k + m ≤ p → p < k + n → f p ≡ []) → flat_map f (range_with_len k n) ≡ flat_map f (range_with_len k m)
flat_map-first f k zero n l none = flat_map-none f k n (λ p low high. none p (omega arith) high)
flat_map-first f k (suc m) zero l none = absurd (omega arith)
flat_map-first f k (suc m) (suc n) l none =
    ap (λ xs. f k ++ xs) (flat_map-first f (k + 1) m n (omega arith) (λ p low high. none p (omega arith) (omega arith)))

-- where there is something at one number alone
pub flat_map-one : {X : Type 0} (f : ℕ → List X) (r k n : ℕ) → k ≤ r → r < k + n → ((p : ℕ) → k ≤ p → p < k + n → (p ≡ r → ⊥) → f p ≡ []) → flat_map f (range_with_len k n) ≡ f r
flat_map-one f r k zero low high others = absurd (omega arith)
flat_map-one f r k (suc n) low high others =
    elim (cases_lt k r) [
      | inl below ↦
          ap (λ xs. xs ++ flat_map f (range_with_len (k + 1) n)) (others k (omega arith) (omega arith) (λ e. omega (arith, e)))
          ∙ flat_map-one f r (k + 1) n (omega arith) (omega arith) (λ p l h other. others p (omega arith) (omega arith) other)
      | inr past ↦
          let here : k ≡ r = omega arith in
          ap (λ xs. f k ++ xs) (flat_map-none f (k + 1) n (λ p l h. others p (omega arith) (omega arith) (λ e. omega (arith, e))))
          ∙ append-nil (f k) ∙ ap f here
    ]

-- a block and what lies past it
block-split : (words : List ℕ) (size k : ℕ) → block words size k ++ drop ((k + 1) * size) words ≡ drop (k * size) words
block-split words size k =
    let len : size ≡ (k + 1) * size - k * size = omega arith in
    ap (λ count. take count (drop (k * size) words) ++ drop ((k + 1) * size) words) len
    ∙ sym (drop_split words (k * size) ((k + 1) * size) (omega arith))

-- n blocks and what lies past them
pub blocks-split : (words : List ℕ) (size k n : ℕ) → flat_map (block words size) (range_with_len k n) ++ drop ((k + n) * size) words ≡ drop (k * size) words
blocks-split words size k zero = ap (λ j. drop (j * size) words) (omega arith)
blocks-split words size k (suc n) =
    let later = flat_map (block words size) (range_with_len (k + 1) n) in
    let next : k + suc n ≡ k + 1 + n = omega arith in
    ap (λ j. (block words size k ++ later) ++ drop (j * size) words) next
    ∙ append_assoc (block words size k) later (drop ((k + 1 + n) * size) words)
    ∙ ap (λ xs. block words size k ++ xs) (blocks-split words size (k + 1) n)
    ∙ block-split words size k

enough : (count n : ℕ) → 0 < n → count ≤ n * block_size count n
enough count n some = omega (arith, div-add-mod (count + (n - 1)) n, mod-lt (count + (n - 1)) some)

-- The blocks for n processes are all of the words.
pub blocks-joined : (words : List ℕ) (n : ℕ) → 0 < n → flat_map (block words (block_size (length words) n)) (range_with_len 0 n) ≡ words
blocks-joined words n some =
    let size = block_size (length words) n in
    let all = flat_map (block words size) (range_with_len 0 n) in
    let fits : length words ≤ (0 + n) * size = omega (arith, enough (length words) n some) in
    let start : 0 * size ≡ 0 = omega arith in
    sym (append-nil all) ∙ ap (λ xs. all ++ xs) (sym (drop_all ((0 + n) * size) words fits))
    ∙ blocks-split words size 0 n ∙ ap (λ j. drop j words) start

-- The words of the lines, one line after the other, are the words.
pub lines-joined : (words : List ℕ) → flat_map (λ line. line) (lines words) ≡ words
lines-joined words =
    let size : ℕ = most_line_words in
    let number : ℕ = block_size (length words) size in
    let all : List ℕ = flat_map (block words size) (range_with_len 0 number) in
    let fits : length words ≤ (0 + number) * size = omega (arith, enough (length words) size (omega arith)) in
    let start : 0 * size ≡ 0 = omega arith in
    flat_map-map (λ (line : List ℕ). line) (block words size) (range_with_len 0 number)
    ∙ sym (append-nil all) ∙ ap (λ xs. all ++ xs) (sym (drop_all ((0 + number) * size) words fits))
    ∙ blocks-split words size 0 number ∙ ap (λ j. drop j words) start

-- There are not too many, where the words fit,
pub lines-few : (words : List ℕ) → length words ≤ most_lines * most_line_words → length (lines words) ≤ most_lines
lines-few words fits =
    let count : length (lines words) ≡ block_size (length words) most_line_words = length-map-range_with_len (block words most_line_words) 0 (block_size (length words) most_line_words) in
    omega (arith, count, div-add-mod (length words + (most_line_words - 1)) most_line_words)

-- and none is too long.
pub lines-short : (words : List ℕ) → All (λ line. length line ≤ most_line_words) (lines words)
lines-short words k d l =
    let number : ℕ = block_size (length words) most_line_words in
    let known : k < number = omega (arith, length-map-range_with_len (block words most_line_words) 0 number) in
    let is = get_or-map-range_with_len (block words most_line_words) 0 number k k d known (omega arith) in
    rw is (omega (arith, length-take most_line_words (drop (k * most_line_words) words)))
