-- What a line asks of a live session (this profile).
use Rattle.std.specs.Prelude.{ℕ, Bool, true, false, ◌==◌, ◌&&◌, ◌||◌, not, List, [], ◌∷◌, ◌++◌, length, take, drop, codes, Option, None, Some, option_and_then, nat_lt, ◌^◌, if◌then◌else◌}
use Rattle.std.specs.Str.{all_ascii_digits, bytes_eq}
use Rattle.std.specs.Str.Parse.{digits_value_after}
use Rattle.toml.specs.Data.{Data, Members, get_member}
use Rattle.bsp_incr.specs.declared.reply.Place.{Place}
use Rattle.bsp_engine.specs.declared.asked.Asked.{Asked}
use Rattle.bsp_engine.specs.declared.asked.Asked.TheVariants.{Batch, Undo, Nothing}
use Rattle.bsp_engine.specs.declared.asked.Unread.TheVariants.{NotToml, WrongType, BadWord, TooLong}
use Rattle.bsp_model.specs.Limits.{most_document_bytes}
use Rattle.bsp_engine.specs.Tree.{tree_of}
use Rattle.bsp_engine.specs.Keys.{is_batch}
use Rattle.bsp_engine.specs.Signs.{has_negative_edit}
use Rattle.bsp_engine.specs.Values.{batch_of}

-- SP, TAB or CR
abbrev pub is_space : ℕ → Bool
is_space byte = byte == 32 || byte == 9 || byte == 13

-- nothing but spaces stands on the line, or a comment alone
abbrev pub is_blank : List ℕ → Bool
is_blank [] = true
is_blank (byte ∷ later) = if is_space byte then is_blank later else byte == 35

-- the batch of no edit, where no other is written
abbrev pub no_edits : Bool → List ℕ
no_edits blank = if blank then codes "[]" else []

-- The document that has what stands on the line as its key `batch`. A blank line stands for the batch of no edit.
unfoldable pub document_of : List ℕ → List ℕ
document_of line = codes "batch = " ++ no_edits (is_blank line) ++ line ++ 10 ∷ []

-- the batch that a value is, as one of `batches` in a document; else J3 or J7
abbrev pub asked_in : Option Data → Asked
asked_in None = Nothing WrongType
asked_in (Some d) =
    if not (is_batch d) then Nothing WrongType
    else (if has_negative_edit d then Nothing BadWord
    else Batch (batch_of d))

-- J1 before them
abbrev pub asked_at : Option Members → Asked
asked_at None = Nothing NotToml
asked_at (Some t) = asked_in (get_member (codes "batch") t)

-- the text begins with the word, and has nothing behind it but spaces and a comment
abbrev pub begins_with_word : List ℕ → List ℕ → Bool
begins_with_word word text = bytes_eq word (take (length word) text) && is_blank (drop (length word) text)

-- the line has more bytes than a document may have
abbrev pub is_long : List ℕ → Bool
is_long line = nat_lt most_document_bytes (length line)

-- no space, and not the beginning of a comment
abbrev pub is_in_word : ℕ → Bool
is_in_word byte = not (is_space byte) && not (byte == 35)

-- the text without the spaces in front of it
abbrev pub behind_spaces : List ℕ → List ℕ
behind_spaces [] = []
behind_spaces (byte ∷ later) = if is_space byte then behind_spaces later else byte ∷ later

-- The word stands on the line: spaces may stand around it, and a comment behind it.
abbrev pub is_word : List ℕ → List ℕ → Bool
is_word word line = begins_with_word word (behind_spaces line)

-- the line asks for the document
abbrev pub is_document : List ℕ → Bool
is_document line = not (is_long line) && is_word (codes "document") line

-- the line asks which lines there are
abbrev pub is_help : List ℕ → Bool
is_help line = not (is_long line) && is_word (codes "help") line

-- the word with which a text begins
abbrev pub first_word : List ℕ → List ℕ
first_word [] = []
first_word (byte ∷ later) = if is_in_word byte then byte ∷ first_word later else []

-- what stands behind that word
abbrev pub behind_word : List ℕ → List ℕ
behind_word [] = []
behind_word (byte ∷ later) = if is_in_word byte then behind_word later else byte ∷ later

-- the number that digits write behind those of n, where there are no other bytes, and it has 64 bits
abbrev pub number_after : ℕ → List ℕ → Option ℕ
number_after n digits =
    if all_ascii_digits digits && nat_lt (digits_value_after 10 n digits) (2 ^ 64) then Some (digits_value_after 10 n digits) else None

-- the number of 64 bits that a word writes
abbrev pub number_of : List ℕ → Option ℕ
number_of [] = None
number_of (byte ∷ later) = number_after 0 (byte ∷ later)

abbrev pub place_if : Bool → ℕ → ℕ → Option Place
place_if true step pid = Some (record { step = step; pid = pid })
place_if false step pid = None

-- The place that a text names, which begins with a word: two numbers with spaces between them. Spaces may stand behind, and a comment.
abbrev pub place_at : List ℕ → Option Place
place_at text =
    let second = behind_spaces (behind_word text) in
    option_and_then (λ step. option_and_then (λ pid. place_if (is_blank (behind_word second)) step pid) (number_of (first_word second))) (number_of (first_word text))

-- the first word of a line
abbrev pub asking_word : List ℕ → List ℕ
asking_word line = first_word (behind_spaces line)

-- the place that stands behind it
abbrev pub asked_place : List ℕ → Option Place
asked_place line = place_at (behind_spaces (behind_word (behind_spaces line)))

-- the line asks what a process saw in a superstep
abbrev pub is_view : List ℕ → Bool
is_view line = not (is_long line) && bytes_eq (asking_word line) (codes "view")

-- the line asks what the turn of a process left
abbrev pub is_turn : List ℕ → Bool
is_turn line = not (is_long line) && bytes_eq (asking_word line) (codes "turn")

-- The line asks for one of the four texts. No run is made for it.
abbrev pub asks_for_text : List ℕ → Bool
asks_for_text line = is_document line || is_help line || is_view line || is_turn line

-- What a line asks, of which no more is kept than a document may have and one byte.
unfoldable pub asked_of : List ℕ → Asked
asked_of line =
    if is_long line then Nothing TooLong
    else (if is_word (codes "undo") line then Undo
    else asked_at (tree_of (document_of line)))
