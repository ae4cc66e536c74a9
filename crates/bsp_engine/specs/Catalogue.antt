-- What a catalogue of programs reads in a document (this profile).
use Rattle.std.specs.Prelude.{◌≡◌, ℕ, Bool, true, List, Option}
use Rattle.toml.specs.Data.{Members, get_member}

-- What the keys of a catalogue mean, over the tree of a document. The parts are asked in the order of the faults that they decide, and each counts
-- only where none before it holds; J6, whether a run may start with the input, comes before the last.
pub record Meaning (P : Type 0) : Type 0 where
  -- no key that it needs is absent (else J2)
  pub has_required_keys : Members → Bool
  -- none of its keys has a value of another shape (else J3)
  pub has_right_shapes : Members → Bool
  -- the catalogue reads this key (J4 has keys that neither it nor every document reads)
  pub is_key : List ℕ → Bool
  -- the program that its keys say, if there is one (else J5)
  pub program_of : Members → Option P
  -- an integer in its keys' values is negative (then J7)
  pub has_negative_word : Members → Bool

-- Two documents have the same values at the keys of a catalogue. At others they may differ.
pub record AgreeOnKeys {P : Type 0} (meaning : Meaning P) (t u : Members) : Type 0 where
  pub values : (key : List ℕ) → meaning.is_key key ≡ true → get_member key t ≡ get_member key u

-- A catalogue asks of a document nothing but the values at its own keys. So a key that it needs is one that it reads.
pub record ReadsOwnKeys {P : Type 0} (meaning : Meaning P) : Type 0 where
  pub required_keys : (t u : Members) → AgreeOnKeys meaning t u → meaning.has_required_keys t ≡ meaning.has_required_keys u
  pub right_shapes : (t u : Members) → AgreeOnKeys meaning t u → meaning.has_right_shapes t ≡ meaning.has_right_shapes u
  pub program : (t u : Members) → AgreeOnKeys meaning t u → meaning.program_of t ≡ meaning.program_of u
  pub negative_word : (t u : Members) → AgreeOnKeys meaning t u → meaning.has_negative_word t ≡ meaning.has_negative_word u
