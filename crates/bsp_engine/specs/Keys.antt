-- Which keys a document has, and of what shape their values are: J2, J3 and J4 (this profile).
use Rattle.std.specs.Prelude.{◌≡◌, ℕ, Bool, true, false, ◌&&◌, ◌||◌, ◌==◌, not, List, [], ◌∷◌, length, drop, codes, Option, None, Some, is_some, if◌then◌else◌}
use Rattle.std.specs.List.{list_all, list_any}
use Rattle.std.specs.Str.{bytes_eq}
use Rattle.toml.specs.Data.{Data, Members, no_members, member, get_member, as_str, as_integer, as_array}
use Rattle.bsp_engine.specs.declared.errors.JobFault.{JobFault}
use Rattle.bsp_engine.specs.declared.errors.JobFault.TheVariants.{MissingKey, WrongType, UnknownKey}
use Rattle.bsp_engine.specs.Catalogue.{Meaning}
use Rattle.bsp_engine.specs.Tree.{has, elements, begins_with}

abbrev pub is_string : Data → Bool
is_string d = is_some (as_str d)

abbrev pub is_integer : Data → Bool
is_integer d = is_some (as_integer d)

-- an array, each of whose elements passes the test
abbrev pub is_array_of : (Data → Bool) → Data → Bool
is_array_of test d = is_some (as_array d) && list_all test (elements d)

-- an array of integers
abbrev pub is_row : Data → Bool
is_row d = is_array_of is_integer d

-- an array of arrays of integers
abbrev pub is_rows : Data → Bool
is_rows d = is_array_of is_row d

-- so many values: a word, and then integers
abbrev pub is_form : List ℕ → ℕ → List Data → Bool
is_form word count ds = begins_with word ds && length ds == count && list_all is_integer (drop 1 ds)

-- `["word", pid, addr, value]`, `["arg", pid, index, value]`, `["limit", n]` or `["prices", g, l]`
abbrev pub is_edit : Data → Bool
is_edit d =
    is_form (codes "word") 4 (elements d) || is_form (codes "arg") 4 (elements d) || is_form (codes "limit") 2 (elements d)
    || is_form (codes "prices") 3 (elements d)

-- an array of edits
abbrev pub is_batch : Data → Bool
is_batch d = is_array_of is_edit d

-- an array of batches
abbrev pub is_batches : Data → Bool
is_batches d = is_array_of is_batch d

-- the value, if it is there, passes the test
abbrev pub passes : (Data → Bool) → Option Data → Bool
passes test None = true
passes test (Some d) = test d

-- no required key is absent
abbrev pub has_required_keys : {P : Type 0} → Meaning P → Members → Bool
has_required_keys meaning t =
    meaning.has_required_keys t && has (codes "limit") t && has (codes "g") t && has (codes "l") t && has (codes "memory") t

-- no known key has a value of another shape
abbrev pub has_right_shapes : {P : Type 0} → Meaning P → Members → Bool
has_right_shapes meaning t =
    meaning.has_right_shapes t && passes is_integer (get_member (codes "limit") t)
    && passes is_integer (get_member (codes "g") t) && passes is_integer (get_member (codes "l") t)
    && passes is_rows (get_member (codes "memory") t) && passes is_rows (get_member (codes "args") t)
    && passes is_batches (get_member (codes "batches") t)

-- the keys that a document may have beside those of the catalogue
abbrev pub common_keys : List (List ℕ)
common_keys = codes "limit" ∷ codes "g" ∷ codes "l" ∷ codes "memory" ∷ codes "args" ∷ codes "batches" ∷ []

-- No key of the catalogue's own is one that every document may have.
abbrev pub HasKeysApart : {P : Type 0} → Meaning P → Type 0
HasKeysApart meaning = (key : List ℕ) → meaning.is_key key ≡ true → list_any (bytes_eq key) common_keys ≡ false

abbrev pub is_known_key : {P : Type 0} → Meaning P → List ℕ → Bool
is_known_key meaning key = meaning.is_key key || list_any (bytes_eq key) common_keys

-- no other key stands at the top
abbrev pub has_known_keys : {P : Type 0} → Meaning P → Members → Bool
has_known_keys meaning no_members = true
has_known_keys meaning (member key d ms) = is_known_key meaning key && has_known_keys meaning ms

-- the first of J2, J3 and J4
abbrev pub key_fault : {P : Type 0} → Meaning P → Members → Option JobFault
key_fault meaning t =
    if not (has_required_keys meaning t) then Some MissingKey
    else (if not (has_right_shapes meaning t) then Some WrongType
    else (if not (has_known_keys meaning t) then Some UnknownKey
    else None))
