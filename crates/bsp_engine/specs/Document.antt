-- The keys of a document that are the catalogue's own, and their text (this profile).
use Rattle.std.specs.Prelude.{◌≡◌, ◌≤◌, ℕ, true, false, List, [], ◌∷◌, Some, IsSomeAnd, if◌then◌else◌}
use Rattle.std.specs.Str.{IsUtf8}
use Rattle.toml.specs.Data.{Members, no_members, member, members_depth, members_have_valid_dates, same_key}
use Rattle.toml.specs.Parse.{parse_document}
use Rattle.toml.specs.Text.{IsDocumentText}
use Rattle.bsp_engine.specs.Keys.{common_keys}
use Rattle.bsp_engine.specs.Tree.{tree_of}

-- the members that have another key
abbrev pub without : List ℕ → Members → Members
without key no_members = no_members
without key (member k d ms) = if same_key key k then without key ms else member k d (without key ms)

-- the members with none of these keys
abbrev pub without_all : List (List ℕ) → Members → Members
without_all [] ms = ms
without_all (key ∷ keys) ms = without_all keys (without key ms)

-- the keys of a document that are the catalogue's own
abbrev pub own_members : Members → Members
own_members ms = without_all common_keys ms

-- how deep arrays and tables of a document may nest
abbrev pub most_depth : ℕ
most_depth = 80

-- The text is printed for these members: a document of them alone, which is read as them, unless they nest deeper than
-- a document may.
pub record IsPrinted (ms : Members) (text : List ℕ) : Type 0 where
  pub is : IsDocumentText false ms text
  pub utf8 : IsUtf8 text
  pub dates : members_have_valid_dates ms ≡ true
  pub reads_back : members_depth ms ≤ most_depth → parse_document text ≡ Some ms

-- the fact holds of a text that is printed for the keys of this document that are the catalogue's own
abbrev pub WithOwnText : List ℕ → (List ℕ → Type 0) → Type 0
WithOwnText bytes fact = (own : List ℕ) × IsSomeAnd (tree_of bytes) (λ t. IsPrinted (own_members t) own) × fact own
