-- What stands for heads, each with the place where its words end, and the words.
use Rattle.std.proofs.Common.{◌≡◌, ◌<◌, ◌+◌, ℕ, zero, suc, List, [], ◌∷◌, ◌++◌, length, get_or, map, refl, sym, ap, ◌∙◌, subst, arith, Some, All}
use Rattle.std.specs.Prelude.{slice_get, slice_range, option_map}
use Rattle.std.proofs.lemmas.List.{map-append, length-map}
use Rattle.std.proofs.lemmas.List.Elements.{All-append, All-head, All-tail}
use Rattle.std.proofs.lemmas.Option.{slice_get-map}
use Rattle.bsp_model.specs.Inside.Blocks.{rows_from, AreEnds, start_at, blocks_of, AreBlocks}
use Rattle.bsp_model.proofs.RowRanges.{length-rows_from, get_or-rows_from, row_at as row_there, rows_from-push, AreEnds-push, same_rows}

-- nothing stands for no heads

pub no_blocks : {H X : Type 0} (of : H × (List ℕ) → X) (words : List ℕ) → blocks_of of [] words ≡ []
unfolding rows_from
no_blocks of words = refl

pub AreBlocks-none : {H : Type 0} (IsKept : H × (List ℕ) → Type 0) → AreBlocks IsKept [] []
unfolding rows_from
AreBlocks-none IsKept = (refl, λ k d within. absurd (omega (arith, within)))

pub length-blocks : {H X : Type 0} (of : H × (List ℕ) → X) (heads : List (H × ℕ)) (words : List ℕ) → length (blocks_of of heads words) ≡ length heads
length-blocks of heads words = length-map (rows_from 0 heads words) of ∙ length-rows_from 0 heads words

-- what stands at a place

pub block_at : {H X : Type 0} (of : H × (List ℕ) → X) (heads : List (H × ℕ)) (words : List ℕ) (blocks : List X) (i : ℕ) (head : H × ℕ) → blocks_of of heads words ≡ blocks → i < length heads → head ≡ get_or heads i head
    → slice_get blocks i ≡ Some (of (head.0, slice_range words (start_at i 0 heads) head.1))
block_at of heads words blocks i head is inside at =
    ap (λ bs. slice_get bs i) (sym is) ∙ slice_get-map of (rows_from 0 heads words) i ∙ ap (option_map of) (row_there i 0 heads words head inside at)

pub kept_at : {H : Type 0} (IsKept : H × (List ℕ) → Type 0) (heads : List (H × ℕ)) (words : List ℕ) (i : ℕ) (head : H × ℕ) → AreBlocks IsKept heads words → i < length heads → head ≡ get_or heads i head
    → IsKept (head.0, slice_range words (start_at i 0 heads) head.1)
kept_at {H = H} IsKept heads words i head are inside at =
    let none : H × (List ℕ) = (head.0, []) in
    subst IsKept (get_or-rows_from i 0 heads words head none inside at) (are.1 i none (omega (arith, inside, length-rows_from 0 heads words)))

-- a block more

one : {X : Type 0} (P : X → Type 0) (x : X) → P x → All P (x ∷ [])
one P x holds zero d within = holds
one P x holds (suc i) d within = absurd (omega (arith, within))

pub AreBlocks-push : {H : Type 0} (IsKept : H × (List ℕ) → Type 0) (heads : List (H × ℕ)) (words row : List ℕ) (head : H) (len : ℕ) → AreBlocks IsKept heads words → IsKept (head, row) → len ≡ length words + length row → len ≡ length (words ++ row)
    → AreBlocks IsKept (heads ++ (head, len) ∷ []) (words ++ row)
AreBlocks-push IsKept heads words row head len are kept long all = (
  subst (AreEnds 0 (heads ++ (head, len) ∷ [])) all (AreEnds-push 0 heads (head, len) (length words) are.0 (omega (arith, long))),
  subst (All IsKept) (sym (rows_from-push 0 heads words row head len are.0 long)) (All-append IsKept (rows_from 0 heads words) ((head, row) ∷ []) are.1 (one IsKept (head, row) kept)),
)

pub blocks-push : {H X : Type 0} (of : H × (List ℕ) → X) (heads : List (H × ℕ)) (words row : List ℕ) (blocks : List X) (head : H) (len : ℕ) → blocks_of of heads words ≡ blocks → AreEnds 0 heads (length words) → len ≡ length words + length row
    → blocks_of of (heads ++ (head, len) ∷ []) (words ++ row) ≡ blocks ++ of (head, row) ∷ []
blocks-push of heads words row blocks head len is ends long =
    ap (map of) (rows_from-push 0 heads words row head len ends long) ∙ map-append of (rows_from 0 heads words) ((head, row) ∷ []) ∙ ap (λ bs. bs ++ of (head, row) ∷ []) is

-- what can be told from blocks

rows_again : {H X : Type 0} (of : H × (List ℕ) → X) (row_of : X → H × (List ℕ)) (IsKept : H × (List ℕ) → Type 0) (kept : (row : H × (List ℕ)) → IsKept row → row_of (of row) ≡ row) (rows : List (H × (List ℕ))) → All IsKept rows
    → map row_of (map of rows) ≡ rows
rows_again of row_of IsKept kept [] are = refl
rows_again of row_of IsKept kept (row ∷ rows) are =
    ap (λ r. r ∷ map row_of (map of rows)) (kept row (All-head IsKept row rows are)) ∙ ap (λ rs. row ∷ rs) (rows_again of row_of IsKept kept rows (All-tail IsKept row rows are))

pub same_blocks : {H X : Type 0} (of : H × (List ℕ) → X) (row_of : X → H × (List ℕ)) (IsKept : H × (List ℕ) → Type 0) (kept : (row : H × (List ℕ)) → IsKept row → row_of (of row) ≡ row) (heads heads' : List (H × ℕ)) (words words' : List ℕ)
    → AreBlocks IsKept heads words → AreBlocks IsKept heads' words' → blocks_of of heads words ≡ blocks_of of heads' words' → (heads ≡ heads') × (words ≡ words')
same_blocks of row_of IsKept kept heads heads' words words' are are' e =
    same_rows 0 heads heads' words words' are.0 are'.0
    (sym (rows_again of row_of IsKept kept (rows_from 0 heads words) are.1) ∙ ap (map row_of) e ∙ rows_again of row_of IsKept kept (rows_from 0 heads' words') are'.1)

pub none_are : {H : Type 0} (IsKept : H × (List ℕ) → Type 0) (heads : List (H × ℕ)) (words : List ℕ) → heads ≡ [] → words ≡ [] → AreBlocks IsKept heads words
none_are IsKept heads words no_heads no_words =
    subst (λ hs. AreBlocks IsKept hs words) (sym no_heads) (subst (AreBlocks IsKept []) (sym no_words) (AreBlocks-none IsKept))
