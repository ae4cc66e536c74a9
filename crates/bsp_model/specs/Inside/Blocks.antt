-- Blocks that are kept as heads, each with the place where its words end, and the words of all in one list.
use Rattle.std.specs.Prelude.{ℕ, zero, suc, ◌≡◌, ◌≤◌, List, [], ◌∷◌, All, length, map, slice_range}

-- the rows whose words begin at this place of the list, each to the end that stands beside its head
unfoldable pub rows_from : {H : Type 0} → ℕ → List (H × ℕ) → List ℕ → List (H × (List ℕ))
rows_from start [] words = []
rows_from start (head ∷ later) words = (head.0, slice_range words start head.1) ∷ rows_from head.1 later words

-- The ends are in order, and the last is that of the words.
abbrev pub AreEnds : {H : Type 0} → ℕ → List (H × ℕ) → ℕ → Type 0
AreEnds start [] len = start ≡ len
AreEnds start (head ∷ later) len = (start ≤ head.1) × AreEnds head.1 later len

-- where the words of a row start, if those of the first start here
abbrev pub start_at : {H : Type 0} → ℕ → ℕ → List (H × ℕ) → ℕ
start_at zero start heads = start
start_at (suc i) start [] = start
start_at (suc i) start (head ∷ later) = start_at i head.1 later

-- what each head and its words stand for
abbrev pub blocks_of : {H X : Type 0} → (H × (List ℕ) → X) → List (H × ℕ) → List ℕ → List X
blocks_of of heads words = map of (rows_from 0 heads words)

-- All words are those of a head, and each head and its words may stand together.
abbrev pub AreBlocks : {H : Type 0} → (H × (List ℕ) → Type 0) → List (H × ℕ) → List ℕ → Type 0
AreBlocks IsKept heads words = AreEnds 0 heads (length words) × All IsKept (rows_from 0 heads words)
