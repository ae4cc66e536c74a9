-- Catalogues that tell their programs by name (this profile).
use Rattle.std.specs.Prelude.{ℕ, false, List, Option, codes, is_some, option_and_then, refl}
use Rattle.std.specs.Cmp.Lexicographic.{same_text}
use Rattle.std.specs.List.{list_any}
use Rattle.std.specs.Str.{bytes_eq}
use Rattle.std.proofs.Common.{ap, sym}
use Rattle.toml.specs.Data.{as_str, get_member}
use Rattle.bsp_engine.specs.Catalogue.{Meaning, ReadsOwnKeys}
use Rattle.bsp_engine.specs.Keys.{HasKeysApart, common_keys, is_string, passes}
use Rattle.bsp_engine.specs.Tree.{has, text_at}

-- The one key is `program`; it is required, and a string, which names the program.
abbrev pub meaning_by_name : {P : Type 0} → (List ℕ → Option P) → Meaning P
meaning_by_name named =
    record {
      has_required_keys = has (codes "program");
      has_right_shapes = λ t. passes is_string (get_member (codes "program") t);
      is_key = λ key. bytes_eq key (codes "program");
      program_of = λ t. option_and_then named (text_at (codes "program") t);
      has_negative_word = λ t. false;
    }

pub meaning_by_name-reads_own_keys : {P : Type 0} (named : List ℕ → Option P) → ReadsOwnKeys (meaning_by_name named)
meaning_by_name-reads_own_keys named =
    record {
      required_keys = λ t u agree. ap is_some (agree.values (codes "program") refl);
      right_shapes = λ t u agree. ap (passes is_string) (agree.values (codes "program") refl);
      program = λ t u agree. ap (λ value. option_and_then named (option_and_then as_str value)) (agree.values (codes "program") refl);
      negative_word = λ t u agree. refl;
    }

pub meaning_by_name-keys_apart : {P : Type 0} (named : List ℕ → Option P) → HasKeysApart (meaning_by_name named)
meaning_by_name-keys_apart named = λ key is. ap (λ (k : List ℕ). list_any (bytes_eq k) common_keys) (same_text key (codes "program") (sym is))
