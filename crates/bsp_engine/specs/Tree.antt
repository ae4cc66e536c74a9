-- The tree that TOML's grammar gives the text of a document, and what stands in it.
use Rattle.std.specs.Prelude.{ℕ, ℤ, pos, Bool, true, false, List, [], ◌∷◌, Option, None, Some, is_some, option_and_then, slice_get, if◌then◌else◌}
use Rattle.std.specs.Str.{bytes_eq, is_utf8}
use Rattle.toml.specs.Data.{Data, Items, no_items, item, Members, get_member, as_str, as_integer, as_array}
use Rattle.toml.specs.Parse.{parse_document}

-- the tree of a document, if it is one
abbrev pub tree_of : List ℕ → Option Members
tree_of bytes = if is_utf8 bytes then parse_document bytes else None

-- the value at a key is there
abbrev pub has : List ℕ → Members → Bool
has key t = is_some (get_member key t)

-- the items of an array as a list
abbrev pub list_of : Items → List Data
list_of no_items = []
list_of (item d ds) = d ∷ list_of ds

abbrev pub list_at : Option Items → List Data
list_at None = []
list_at (Some ds) = list_of ds

-- the elements of an array; of another value none
abbrev pub elements : Data → List Data
elements d = list_at (as_array d)

abbrev pub elements_in : Option Data → List Data
elements_in None = []
elements_in (Some d) = elements d

-- the elements of the array at a key; none where no array is there
abbrev pub elements_at : List ℕ → Members → List Data
elements_at key t = elements_in (get_member key t)

-- the text at a key
abbrev pub text_at : List ℕ → Members → Option (List ℕ)
text_at key t = option_and_then as_str (get_member key t)

-- the integer at a key
abbrev pub integer_at : List ℕ → Members → Option ℤ
integer_at key t = option_and_then as_integer (get_member key t)

abbrev pub is_text : List ℕ → Option (List ℕ) → Bool
is_text word None = false
is_text word (Some text) = bytes_eq text word

-- the first of the values is this word
abbrev pub begins_with : List ℕ → List Data → Bool
begins_with word ds = is_text word (option_and_then as_str (slice_get ds 0))

-- an integer that is not negative; 0 stands for any other
abbrev pub natural_of : Option ℤ → ℕ
natural_of (Some (pos n)) = n
natural_of _ = 0

-- the number at a place of an array
abbrev pub number_at : ℕ → List Data → ℕ
number_at place ds = natural_of (option_and_then as_integer (slice_get ds place))

abbrev pub is_negative_integer : Option ℤ → Bool
is_negative_integer None = false
is_negative_integer (Some (pos n)) = false
is_negative_integer (Some _) = true

-- a negative integer
abbrev pub is_negative : Data → Bool
is_negative d = is_negative_integer (as_integer d)
