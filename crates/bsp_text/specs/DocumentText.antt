-- The input of a live session as a document without batches (this profile).
use Rattle.std.specs.Prelude.{ℕ, ◌==◌, List, [], ◌∷◌, ◌++◌, codes, decimal, if◌then◌else◌}
use Rattle.bsp_model.specs.declared.input.Input.{Input}
use Rattle.bsp_text.specs.Lines.{line, numbered}

-- a comma and a space stand before each item of an array but the first
abbrev pub comma : ℕ → List ℕ
comma n = if n == 0 then [] else codes ", "

abbrev pub entry : {A : Type 0} → (A → List ℕ) → ℕ → A → List ℕ
entry text n x = comma n ++ text x

-- `[X, X, ..]`
abbrev pub array_text : {A : Type 0} → (A → List ℕ) → List A → List ℕ
array_text text xs = codes "[" ++ numbered (entry text) 0 xs ++ codes "]"

abbrev pub words_text : List ℕ → List ℕ
words_text words = array_text decimal words

-- `KEY = [[W, W, ..], [W, W, ..], ..]`
abbrev pub rows_line : List ℕ → List (List ℕ) → List ℕ
rows_line key rows = key ++ codes " = " ++ array_text words_text rows ++ 10 ∷ []

-- The document of an input. The keys of the catalogue's own come last, as their text is given: there may be tables
-- among them.
unfoldable pub document_text : List ℕ → Input → List ℕ
document_text own input =
    line (codes "limit =") (input.limit ∷ []) ++ line (codes "g =") (input.g ∷ []) ++ line (codes "l =") (input.l ∷ [])
    ++ rows_line (codes "memory") input.mems ++ rows_line (codes "args") input.args ++ own

-- the same between the lines `document` and `end`
abbrev pub document_block : List ℕ → Input → List ℕ
document_block own input = codes "document\n" ++ document_text own input ++ codes "end\n"
