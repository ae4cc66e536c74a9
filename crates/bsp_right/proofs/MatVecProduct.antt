-- The words that a process has when it has taken all blocks, and the product that it makes of them.
use Rattle.std.proofs.Common.{◌%◌, ◌*◌, ◌+◌, ◌-◌, ◌/◌, ◌<◌, ◌^◌, List, [], ap, arith, cond, drop, false, get_or, inl, inr, length, min, refl, suc, sym, take, true, zero, ℕ, ◌∙◌, ◌≡◌, ◌≤◌}
use Rattle.std.specs.Prelude.{sum_by}
use Rattle.std.specs.List.{zip}
use Rattle.std.proofs.lemmas.Bool.{cases_lt}
use Rattle.std.proofs.lemmas.Bool.Decides.{nat_tests}
use Rattle.std.proofs.lemmas.List.{ext_get_or, get_or-drop, get_or-take, length-drop, length-take, take_all}
use Rattle.std.proofs.lemmas.List.FromFn.{get_or-map-range_with_len, length-map-range_with_len}
use Rattle.std.proofs.lemmas.List.Sums.{sum_by_more}
use Rattle.std.proofs.lemmas.Nat.{div-add-mod', div-mul-add, div_below, mod-mul-add, mod_below, mul-add-lt, row_fits}
use Rattle.std.proofs.lemmas.Slice.Zip.{get_or-zip, length-zip}
use Rattle.bsp_model.specs.declared.input.Input.{Input}
use Rattle.bsp_programs.specs.MatVec.{block_start, columns, inner_product, is_within, product_of, product_start, vector_start}
use Rattle.bsp_step.specs.Blocks.{stored}
use Rattle.bsp_right.specs.Multiplied.{entry, memory_multiplied, own_product, product_word, vector_word, word_multiplied}
use Rattle.bsp_right.specs.Sums.{sum_before}
use Rattle.bsp_right.proofs.MatVecReceiving.{length-received, received, received-inside, received-outside}
use Rattle.bsp_right.proofs.MatVecTurns.{block_of, words_from}
use Rattle.bsp_right.proofs.Ranges.{range-shifted}
use Rattle.bsp_right.proofs.MatVecStores.{length-stored, stored-inside, stored-outside}

sum_before-agree : (f g : ℕ → ℕ) (n : ℕ) → ((j : ℕ) → j < n → f j ≡ g j) → sum_before f n ≡ sum_before g n
sum_before-agree f g zero h = refl
sum_before-agree f g (suc n) h = λ i. sum_before-agree f g n (λ j l. h j (omega arith)) i + h n (omega arith) i

products_before : (row vector : List ℕ) (m : ℕ) → m ≤ length row → m ≤ length vector → sum_by (λ (pair : ℕ × ℕ). pair.0 * pair.1) (take m (zip row vector)) ≡ sum_before (λ j. get_or row j 0 * get_or vector j 0) m
products_before row vector zero l h = refl
products_before row vector (suc m) l h =
    let pairs = zip row vector in
    let one : suc m ≡ m + 1 = omega arith in
    let size : length pairs ≡ min (length row) (length vector) = length-zip row vector in
    let pair : get_or pairs m (0, 0) ≡ (get_or row m 0, get_or vector m 0) = get_or-zip row vector m (0, 0) (omega arith) (omega arith) in
    ap (λ k. sum_by (λ (x : ℕ × ℕ). x.0 * x.1) (take k pairs)) one
    ∙ sum_by_more (λ (x : ℕ × ℕ). x.0 * x.1) pairs m (0, 0) (omega arith)
    ∙ (λ i. products_before row vector m (omega arith) (omega arith) i + (pair i).0 * (pair i).1)

inner_product-is : (row vector : List ℕ) (m : ℕ) → length row ≡ m → length vector ≡ m → inner_product row vector ≡ sum_before (λ j. get_or row j 0 * get_or vector j 0) m % 2 ^ 64
inner_product-is row vector m l h =
    let size : length (zip row vector) ≤ m = omega (arith, length-zip row vector) in
    ap (λ pairs. sum_by (λ (x : ℕ × ℕ). x.0 * x.1) pairs % 2 ^ 64) (sym (take_all m (zip row vector) size))
    ∙ ap (λ s. s % 2 ^ 64) (products_before row vector m (omega arith) (omega arith))

-- the memory of a process of the input, and the block in it
abbrev pub memory_in : Input → ℕ → List ℕ
memory_in input p = get_or input.mems p []

abbrev pub block_in : Input → ℕ → ℕ → List ℕ
block_in input b q = block_of (length input.mems) b (memory_in input q)

pub length-block_in : (input : Input) (b q : ℕ) → length (block_in input b q) ≡ b
length-block_in input b q = length-map-range_with_len (λ a. get_or (memory_in input q) a 0) (block_start (length input.mems) b) b

-- the memory of process p when it has taken all blocks
abbrev pub gathered : Input → ℕ → ℕ → List ℕ
gathered input b p = received (vector_start (length input.mems) b) b (block_in input b) (memory_in input p) 0 (length input.mems)

pub length-gathered : (input : Input) (b p : ℕ) → length (gathered input b p) ≡ length (memory_in input p)
length-gathered input b p = length-received (vector_start (length input.mems) b) b (block_in input b) (length input.mems) 0 (memory_in input p)

gathered-outside : (input : Input) (b p a : ℕ) → (vector_start (length input.mems) b ≤ a → product_start (length input.mems) b ≤ a) → get_or (gathered input b p) a 0 ≡ get_or (memory_in input p) a 0
gathered-outside input b p a h =
    let n = length input.mems in
    received-outside (vector_start n b) b (block_in input b) (length-block_in input b) n 0 (memory_in input p) a (λ l. (let past : product_start n b ≤ a = h (omega arith) in omega arith))

some_rows : (n b j : ℕ) → j < n * b → 0 < b
some_rows n zero j l = absurd (omega arith)
some_rows n (suc b) j l = omega arith

-- it has the whole vector
pub gathered-vector : (input : Input) (b p j : ℕ) → j < length input.mems * b → product_start (length input.mems) b ≤ length (memory_in input p) → get_or (gathered input b p) (vector_start (length input.mems) b + j) 0 ≡ vector_word input b j
gathered-vector input b p j l h =
    let n = length input.mems in
    let some : 0 < b = some_rows n b j l in
    let q = j / b in
    let r = j % b in
    let whole : q * b + r ≡ j = div-add-mod' j b in
    let known : q < n = div_below j b n some l in
    let below : r < b = mod_below j b some in
    let at : vector_start n b + j ≡ vector_start n b + q * b + r = omega arith in
    ap (λ a. get_or (gathered input b p) a 0) at
    ∙ received-inside (vector_start n b) b (block_in input b) (length-block_in input b) n 0 (memory_in input p) q r (omega arith) (omega arith) below (omega arith)
    ∙ get_or-map-range_with_len (λ a. get_or (memory_in input q) a 0) (block_start n b) b r (block_start n b + r) 0 below refl

-- the words that it multiplies
abbrev pub matrix_in : Input → ℕ → ℕ → List ℕ
matrix_in input b p = words_from (gathered input b p) 0 (block_start (length input.mems) b)

abbrev pub vector_in : Input → ℕ → ℕ → List ℕ
vector_in input b p = words_from (gathered input b p) (vector_start (length input.mems) b) (columns (length input.mems) b)

row_word : (input : Input) (b p i j : ℕ) → i < b → j < columns (length input.mems) b → get_or (take (columns (length input.mems) b) (drop (i * columns (length input.mems) b) (matrix_in input b p))) j 0 ≡ entry input b (p * b + i) j
row_word input b p i j l m =
    let n = length input.mems in
    let wide = columns n b in
    let inside : i * wide + j < wide * b = mul-add-lt i wide j b l m in
    get_or-take wide (drop (i * wide) (matrix_in input b p)) j 0 m
    ∙ get_or-drop (i * wide) (matrix_in input b p) j 0
    ∙ get_or-map-range_with_len (λ a. get_or (gathered input b p) a 0) 0 (block_start n b) (i * wide + j) (i * wide + j) 0 (omega arith) (omega arith)
    ∙ gathered-outside input b p (i * wide + j) (λ h. absurd (omega arith))
    ∙ sym (λ k. get_or (memory_in input (div-mul-add p b i l k)) (mod-mul-add p b i l k * wide + j) 0)

vector_in_word : (input : Input) (b p j : ℕ) → j < columns (length input.mems) b → product_start (length input.mems) b ≤ length (memory_in input p) → get_or (vector_in input b p) j 0 ≡ vector_word input b j
vector_in_word input b p j l h =
    let n = length input.mems in
    get_or-map-range_with_len (λ a. get_or (gathered input b p) a 0) (vector_start n b) (columns n b) j (vector_start n b + j) 0 l refl
    ∙ gathered-vector input b p j l h

row_product : (input : Input) (b p i : ℕ) → i < b → product_start (length input.mems) b ≤ length (memory_in input p)
    → inner_product (take (columns (length input.mems) b) (drop (i * columns (length input.mems) b) (matrix_in input b p))) (vector_in input b p) ≡ product_word input b (p * b + i)
row_product input b p i l h =
    let n = length input.mems in
    let wide = columns n b in
    let matrix = matrix_in input b p in
    let row = take wide (drop (i * wide) matrix) in
    let all : length matrix ≡ block_start n b = length-map-range_with_len (λ a. get_or (gathered input b p) a 0) 0 (block_start n b) in
    let fits : i * wide + wide ≤ b * wide = row_fits i wide b wide l (omega arith) in
    let size : length row ≡ wide = omega (arith, length-take wide (drop (i * wide) matrix), length-drop (i * wide) matrix) in
    inner_product-is row (vector_in input b p) wide size (length-map-range_with_len (λ a. get_or (gathered input b p) a 0) (vector_start n b) wide)
    ∙ ap (λ s. s % 2 ^ 64) (sum_before-agree (λ j. get_or row j 0 * get_or (vector_in input b p) j 0) (λ j. entry input b (p * b + i) j * vector_word input b j) wide (λ j m k. row_word input b p i j l m k * vector_in_word input b p j m h k))

-- What it makes of them are its words of the product.
pub product_is : (input : Input) (b p : ℕ) → product_start (length input.mems) b ≤ length (memory_in input p) → product_of b (columns (length input.mems) b) (matrix_in input b p) (vector_in input b p) ≡ own_product input b p
product_is input b p h =
    let wide = columns (length input.mems) b in
    range-shifted (λ i. inner_product (take wide (drop (i * wide) (matrix_in input b p))) (vector_in input b p)) (product_word input b) b 0 (p * b) (λ j l.
    let same : 0 + j ≡ j = omega arith in
    ap (λ i. inner_product (take wide (drop (i * wide) (matrix_in input b p))) (vector_in input b p)) same ∙ row_product input b p j l h)

within : (start len a : ℕ) → start ≤ a → a < start + len → is_within start len a ≡ true
within start len a low high = grind (arith, nat_tests)

below : (start len a : ℕ) → a < start → is_within start len a ≡ false
below start len a low = grind (arith, nat_tests)

above : (start len a : ℕ) → start + len ≤ a → is_within start len a ≡ false
above start len a high = grind (arith, nat_tests)

-- a word of process p at the end
word_at_end : (input : Input) (b p a : ℕ) → product_start (length input.mems) b + b ≤ length (memory_in input p) → get_or (stored (gathered input b p) (product_start (length input.mems) b) (own_product input b p)) a 0 ≡ word_multiplied input b p a
word_at_end input b p a h =
    let n = length input.mems in
    let vs = vector_start n b in
    let ps = product_start n b in
    let product = own_product input b p in
    let size : length product ≡ b = length-map-range_with_len (product_word input b) (p * b) b in
    let vector = vector_word input b (a - vs) in
    let own = product_word input b (p * b + (a - ps)) in
    let old = get_or (memory_in input p) a 0 in
    elim (cases_lt a vs) [
      | inl before ↦
          let here : a < ps = omega arith in
          stored-outside product (gathered input b p) ps a (λ l. absurd (omega arith))
          ∙ gathered-outside input b p a (λ l. absurd (omega arith))
          ∙ sym (λ i. cond (below vs (columns n b) a before i) vector (cond (below ps b a here i) own old))
      | inr from ↦
          elim (cases_lt a ps) [
            | inl before ↦
                let at : a ≡ vs + (a - vs) = omega arith in
                stored-outside product (gathered input b p) ps a (λ l. absurd (omega arith))
                ∙ ap (λ k. get_or (gathered input b p) k 0) at
                ∙ gathered-vector input b p (a - vs) (omega arith) (omega arith)
                ∙ sym (λ i. cond (within vs (columns n b) a from before i) vector (cond (is_within ps b a) own old))
            | inr past ↦
                elim (cases_lt a (ps + b)) [
                  | inl before ↦
                      let at : a ≡ ps + (a - ps) = omega arith in
                      ap (λ k. get_or (stored (gathered input b p) ps product) k 0) at
                      ∙ stored-inside product (gathered input b p) ps (a - ps) (omega arith) (omega (arith, length-gathered input b p))
                      ∙ get_or-map-range_with_len (product_word input b) (p * b) b (a - ps) (p * b + (a - ps)) 0 (omega arith) refl
                      ∙ sym (λ i. cond (above vs (columns n b) a past i) vector (cond (within ps b a past before i) own old))
                  | inr after ↦
                      stored-outside product (gathered input b p) ps a (λ l. omega arith)
                      ∙ gathered-outside input b p a (λ l. past)
                      ∙ sym (λ i. cond (above vs (columns n b) a past i) vector (cond (above ps b a after i) own old))
                ]
          ]
    ]

-- The memory of process p at the end.
pub memory_at_end : (input : Input) (b p : ℕ) → product_start (length input.mems) b + b ≤ length (memory_in input p) → stored (gathered input b p) (product_start (length input.mems) b) (own_product input b p) ≡ memory_multiplied input b p
memory_at_end input b p h =
    let n = length input.mems in
    let len = length (memory_in input p) in
    let left = stored (gathered input b p) (product_start n b) (own_product input b p) in
    let size : length left ≡ len = length-stored (own_product input b p) (gathered input b p) (product_start n b) ∙ length-gathered input b p in
    let same : length (memory_multiplied input b p) ≡ len = length-map-range_with_len (word_multiplied input b p) 0 len in
    ext_get_or 0 left (memory_multiplied input b p) (omega arith) (λ a l. word_at_end input b p a h ∙ sym (get_or-map-range_with_len (word_multiplied input b p) 0 len a a 0 (omega arith) (omega arith)))
