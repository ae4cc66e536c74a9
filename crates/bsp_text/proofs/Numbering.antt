-- Texts that grow by a piece for each item.
use Rattle.std.proofs.Common.{◌≡◌, ℕ, ◌+◌, ◌-◌, ◌^◌, ◌<◌, ◌≤◌, min, List, [], ◌∷◌, ◌++◌, length, take, drop, get_or, cond, Result, Ok, Err, OnOk, sym, ap, ◌∙◌, append_assoc, arith}
use Rattle.std.specs.Result.{is_ok}
use Rattle.std.specs.Prelude.{decimal, slice_set}
use Rattle.std.specs.List.{flat_map}
use Rattle.std.proofs.Math.Seq.{take-add}
use Rattle.std.proofs.lemmas.Grind.{flat_map-append}
use Rattle.std.proofs.lemmas.Fmt.{length-decimal-le}
use Rattle.std.proofs.lemmas.List.{append-nil, drop_more, drop-set, flat_map_more, length-take, length-take-le, take_min, take_more}
use Rattle.bsp_text.specs.Lines.{field, fields, numbered}

pub numbered-snoc : {A : Type 0} (piece : ℕ → A → List ℕ) (n : ℕ) (xs : List A) (x : A) → numbered piece n (xs ++ x ∷ []) ≡ numbered piece n xs ++ piece (n + length xs) x
numbered-snoc piece n [] x = let here : n + 0 ≡ n = omega arith in rw here (append-nil (piece n x))
numbered-snoc piece n (y ∷ xs) x =
    let count : n + length (y ∷ xs) ≡ (n + 1) + length xs = omega arith in
    rw count (ap (λ l. piece n y ++ l) (numbered-snoc piece (n + 1) xs x)
    ∙ sym (append_assoc (piece n y) (numbered piece (n + 1) xs) (piece ((n + 1) + length xs) x)))

-- a text that has a piece for each numbered item so far, and then one for the next
pub numbered_grows : {A : Type 0} (piece : ℕ → A → List ℕ) (text old new : List ℕ) (xs : List A) (i : ℕ) (x : A) → i < length xs → x ≡ get_or xs i x → old ≡ text ++ numbered piece 0 (take i xs) → new ≡ old ++ piece i x → new ≡ text ++ numbered piece 0 (take (i + 1) xs)
numbered_grows piece text old new xs i x h is so_far next =
    let count : 0 + length (take i xs) ≡ i = omega (arith, length-take-le i xs (omega arith)) in
    let more : numbered piece 0 (take (i + 1) xs) ≡ numbered piece 0 (take i xs) ++ piece i x =
    ap (numbered piece 0) (take_more xs i x h ∙ ap (λ y. take i xs ++ y ∷ []) (sym is))
    ∙ (numbered-snoc piece 0 (take i xs) x ∙ ap (λ (k : ℕ). numbered piece 0 (take i xs) ++ piece k x) count) in
    next ∙ (ap (λ l. l ++ piece i x) so_far ∙ (append_assoc text (numbered piece 0 (take i xs)) (piece i x) ∙ ap (λ l. text ++ l) (sym more)))

-- the same for pieces without a number
pub pieces_grow : {A : Type 0} (piece : A → List ℕ) (text old new : List ℕ) (xs : List A) (i : ℕ) (x : A) → i < length xs → x ≡ get_or xs i x → old ≡ text ++ flat_map piece (take i xs) → new ≡ old ++ piece x → new ≡ text ++ flat_map piece (take (i + 1) xs)
pieces_grow piece text old new xs i x h is so_far next =
    next ∙ (ap (λ l. l ++ piece x) so_far ∙ (flat_map_more piece text (take i xs) x ∙ ap (λ l. text ++ flat_map piece l) (ap (λ y. take i xs ++ y ∷ []) is ∙ sym (take_more xs i x h))))

-- two pieces, of which the last comes only at an `Ok`
pub two_pieces : {X E : Type 0} (r : Result X E) (old a b one two : List ℕ) → one ≡ old ++ a → OnOk r (two ≡ one ++ b) → OnOk r (two ≡ old ++ (a ++ b))
two_pieces (Ok x) old a b one two e f = f ∙ (ap (λ l. l ++ b) e ∙ append_assoc old a b)
two_pieces (Err x) old a b one two e f = tt

-- the same for three
pub three_pieces : {X E : Type 0} (r : Result X E) (old a b c one two three : List ℕ) → one ≡ old ++ a → two ≡ one ++ b → OnOk r (three ≡ two ++ c) → OnOk r (three ≡ old ++ ((a ++ b) ++ c))
three_pieces r old a b c one two three e f g = two_pieces r old (a ++ b) c two three (f ∙ (ap (λ l. l ++ b) e ∙ append_assoc old a b)) g

-- the same, where all come
pub three_parts : (old a b c one two three : List ℕ) → one ≡ old ++ a → two ≡ one ++ b → three ≡ two ++ c → three ≡ old ++ (a ++ (b ++ c))
three_parts old a b c one two three e f g =
    g ∙ (ap (λ l. l ++ c) (f ∙ ap (λ l. l ++ b) e) ∙ (append_assoc (old ++ a) b c ∙ append_assoc old a (b ++ c)))

-- a block: what it begins with, five pieces, and its end, which comes only at an `Ok`
pub block_told : {X E : Type 0} (r : Result X E) (t0 t1 t2 t3 t4 t5 t6 t7 other a b c d e f end : List ℕ) → t1 ≡ t0 ++ a → t2 ≡ t1 ++ b → t3 ≡ t2 ++ c → t4 ≡ t3 ++ d → t5 ≡ t4 ++ e → t6 ≡ t5 ++ f
    → t7 ≡ cond (is_ok r) (t6 ++ end) other → OnOk r (t7 ≡ t0 ++ (a ++ (b ++ c ++ d ++ e ++ f) ++ end))
block_told (Ok x) t0 t1 t2 t3 t4 t5 t6 t7 other a b c d e f end h1 h2 h3 h4 h5 h6 h7 =
    h7 ∙ ap (λ t. t ++ end) (h6 ∙ ap (λ t. t ++ f) (h5 ∙ ap (λ t. t ++ e) (h4 ∙ ap (λ t. t ++ d) (h3 ∙ ap (λ t. t ++ c) (h2 ∙ ap (λ t. t ++ b) h1))))) ∙ simp append_assoc
block_told (Err x) t0 t1 t2 t3 t4 t5 t6 t7 other a b c d e f end h1 h2 h3 h4 h5 h6 h7 = tt

-- numbers that are written from the last to the first, each with a space before it

pub few_digits : (n : ℕ) → n < 2 ^ 64 → length (decimal n) ≤ 20
few_digits n l = length-decimal-le 20 n (omega arith) (omega arith) l

pub field_before : (numbers room buf rest : List ℕ) (left at start : ℕ) → 0 < left → left ≤ length numbers → 0 < start → start ≤ length buf → drop start buf ≡ decimal (get_or numbers (left - 1) 0) ++ drop at room → drop at room ≡ fields (drop left numbers) ++ rest
    → drop (start - 1) (slice_set buf (start - 1) 32) ≡ fields (drop (left - 1) numbers) ++ rest
field_before numbers room buf rest left at start some few low high one others =
    let digits = decimal (get_or numbers (left - 1) 0) in
    let next : start - 1 + 1 ≡ start = omega arith in
    let here : left ≡ left - 1 + 1 = omega arith in
    let behind = fields (drop (left - 1 + 1) numbers) in
    drop-set buf (start - 1) 32 (omega arith)
    ∙ ap (λ l. 32 ∷ l) (ap (λ k. drop k buf) next ∙ one ∙ ap (λ l. digits ++ l) (others ∙ ap (λ k. fields (drop k numbers) ++ rest) here) ∙ sym (append_assoc digits behind rest))
    ∙ sym (ap (λ l. fields l ++ rest) (drop_more numbers (left - 1) 0 (omega arith)))

-- a text that has the first numbers, and then those of a part
pub fields_grow : (numbers part : List ℕ) (i count : ℕ) (text old new : List ℕ) → part ≡ take count (drop i numbers) → old ≡ text ++ fields (take i numbers) → new ≡ old ++ fields part → new ≡ text ++ fields (take (i + count) numbers)
fields_grow numbers part i count text old new is so_far more =
    more ∙ ap (λ l. l ++ fields part) so_far ∙ append_assoc text (fields (take i numbers)) (fields part)
    ∙ ap (λ l. text ++ l) (ap (λ p. fields (take i numbers) ++ fields p) is ∙ sym (ap fields (take-add i count numbers) ∙ flat_map-append field (take i numbers) (take count (drop i numbers))))

-- a part with all of its numbers
pub part_whole : (numbers part : List ℕ) (i count : ℕ) → part ≡ take count (drop i numbers) → part ≡ take (length part) (drop i numbers)
part_whole numbers part i count is =
    let all = drop i numbers in
    let long : length part ≡ min count (length all) = ap (λ (p : List ℕ). length p) is ∙ length-take count all in
    is ∙ sym (take_min count all) ∙ ap (λ k. take k all) (sym long)
