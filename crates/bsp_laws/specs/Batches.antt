-- Laws of batches (this profile).
use Rattle.std.specs.Prelude.{◌≡◌, ◌↔◌, true, false, if◌then◌else◌, List, [], ◌∷◌, ◌++◌, None, Any, Contains, length, map}
use Rattle.std.specs.List.{list_any}
use Rattle.bsp_model.specs.declared.input.Input.{Input}
use Rattle.bsp_incr.specs.declared.edit.Edit.{Edit}
use Rattle.bsp_incr.specs.Edits.{refusal_of, edited_by, edited}
use Rattle.bsp_incr.specs.Replies.{input_after}
use Rattle.bsp_incr.specs.Undo.{same_part}

-- One batch does what two do that are put one after the other. It is accepted exactly where both are, and then what is answered to every later batch is the same.
pub record IsSequence (first second both : List Edit) : Type 0 where
  pub input : (i : Input) → edited i both ≡ edited (edited i first) second
  pub accepted : (i : Input) → (refusal_of i both ≡ None) ↔ ((refusal_of i first ≡ None) × (refusal_of (edited i first) second ≡ None))
  pub after : (i : Input) → refusal_of i both ≡ None → input_after i both ≡ input_after (input_after i first) second

-- No batch changes which batches are accepted.
abbrev pub AcceptanceStays : Type 0
AcceptanceStays = (i : Input) (first second : List Edit) → refusal_of (edited i first) second ≡ refusal_of i second

-- No batch changes how many processes there are, or the length of a memory or of a list of arguments.
pub record LengthsStay : Type 0 where
  pub memories : (i : Input) (batch : List Edit) → map (λ m. length m) (edited i batch).mems ≡ map (λ m. length m) i.mems
  pub arguments : (i : Input) (batch : List Edit) → map (λ a. length a) (edited i batch).args ≡ map (λ a. length a) i.args

-- Of two edits of one part the later counts ..
abbrev pub LastWins : Type 0
LastWins = (i : Input) (d e : Edit) → same_part d e ≡ true → edited_by (edited_by i d) e ≡ edited_by i e

-- .. wherever it stands later in the batch ..
abbrev pub LastWinsInBatch : Type 0
LastWinsInBatch = (i : Input) (before later : List Edit) (d : Edit) → Any (λ e. same_part d e ≡ true) later → edited i (before ++ d ∷ later) ≡ edited i (before ++ later)

-- .. and edits of different parts may be made in either order.
abbrev pub EditsCommute : Type 0
EditsCommute = (i : Input) (d e : Edit) → same_part d e ≡ false → edited_by (edited_by i d) e ≡ edited_by (edited_by i e) d

-- The edits of a batch without those of whose part there is a later one.
abbrev pub last_edits : List Edit → List Edit
last_edits [] = []
last_edits (e ∷ later) = if list_any (same_part e) later then last_edits later else e ∷ last_edits later

-- no two edits of a list are of one part
abbrev pub AreApart : List Edit → Type 0
AreApart [] = Unit {0}
AreApart (e ∷ later) = ((d : Edit) → Contains later d → same_part e d ≡ false) × AreApart later

-- A batch that does what another one does, and is accepted where that one is, with one edit of each part.
pub record IsInPlaceOf (edits last : List Edit) : Type 0 where
  pub input : (i : Input) → edited i last ≡ edited i edits
  pub accepted : (i : Input) → refusal_of i edits ≡ None → refusal_of i last ≡ None
  pub apart : AreApart last
