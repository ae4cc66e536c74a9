-- A table without a key.
use Rattle.std.proofs.Common.{◌≡◌, ℕ, Bool, true, false, List, [], ◌∷◌, None, String, Global, refl, sym, ap, string_bytes, nat_cmp, inl, inr}
use Rattle.std.specs.Map.{lookup, remove_entry}
use Rattle.std.specs.BTreeMap.{is_at}
use Rattle.std.specs.Cmp.Lexicographic.{slice_cmp}
use Rattle.std.proofs.lemmas.Bool.{cases_Bool}
use Rattle.std.proofs.lemmas.Option.{none-some}
use Rattle.std.specs.Prelude.{◌↔◌, Ok, Err}
use Rattle.toml.specs.declared.ser.error.Error.TheVariants.{DateInvalid}
use Rattle.toml.specs.Data.{Members, member, members_have_valid_dates, same_key}
use Rattle.toml.specs.View.{members_view, view}
use Rattle.toml.specs.declared.value.Value.{Value}
use Rattle.bsp_engine.specs.Document.{without}

abbrev is_key_at : List ℕ → String Global → Bool
is_key_at key k = is_at (λ x. slice_cmp nat_cmp key (string_bytes x)) k

-- where no entry has the key
absent : (key : List ℕ) (es : List (String Global × Value)) → lookup (is_key_at key) es ≡ None → members_view es ≡ without key (members_view es)
absent key [] none = refl
absent key (e ∷ es) none =
    elim (cases_Bool (same_key key (string_bytes e.0))) [
      | inl here ↦ absurd (none-some e.1 (sym (rw here at none)))
      | inr other ↦ rw other (ap (member (string_bytes e.0) (view e.1)) (absent key es (rw other at none)))
    ]

pub removed : (key : List ℕ) (es : List (String Global × Value)) → lookup (is_key_at key) (remove_entry (is_key_at key) es) ≡ None
    → members_view (remove_entry (is_key_at key) es) ≡ without key (members_view es)
removed key [] none = refl
removed key (e ∷ es) none =
    elim (cases_Bool (same_key key (string_bytes e.0))) [
      | inl here ↦ rw here (absent key es (rw here at none))
      | inr other ↦ rw other (ap (member (string_bytes e.0) (view e.1)) (removed key es (rw (other, other) at none)))
    ]

-- what was printed has no date that can't be
pub has_dates : (text : String Global) (ms : Members) → (Ok text ≡ Err DateInvalid) ↔ (members_have_valid_dates ms ≡ false) → members_have_valid_dates ms ≡ true
has_dates text ms e =
    elim (cases_Bool (members_have_valid_dates ms)) [
      | inl dated ↦ dated
      | inr other ↦ let same : Ok text ≡ Err DateInvalid = e.1 other in let bad : ⊥ = cc in absurd bad
    ]
