-- How the values that the code reads and the tree fit together.
use Rattle.std.proofs.Common.{◌≡◌, ℕ, ◌&&◌, ◌||◌, List, [], ◌∷◌, map, length, take, drop, ◌-◌, cond, refl, ap, sym, length-drop, arith, ◌∙◌, String, Global, string_bytes}
use Rattle.std.proofs.Math.Seq.{take-length}
use Rattle.std.specs.Prelude.{Bool, None, true, false, ◌==◌, is_some}
use Rattle.std.specs.List.{list_all, list_any}
use Rattle.std.specs.Str.{IsUtf8, is_utf8}
use Rattle.std.proofs.lemmas.List.Folds.{list_all-map}
use Rattle.std.proofs.lemmas.Str.{IsUtf8-from_is_utf8, is_utf8-from_IsUtf8}
use Rattle.std.proofs.lemmas.List.{length-map}
use Rattle.std.proofs.lemmas.Bool.Decides.{nat_tests}
use Rattle.toml.specs.Data.{Data, as_array}
use Rattle.toml.specs.Parse.{parse_document}
use Rattle.toml.specs.View.{view, items_of, items_view, members_view}
use Rattle.toml.specs.declared.value.Value.{Value}
use Rattle.bsp_engine.specs.Catalogue.{Meaning}
use Rattle.bsp_engine.specs.Tree.{list_of, elements, begins_with, tree_of}
use Rattle.bsp_engine.specs.Keys.{is_integer, is_array_of, is_form, is_known_key, has_known_keys}
use Rattle.bsp_engine.specs.Values.{args_of, row_of}

pub list_of-items_of : (ds : List Data) → list_of (items_of ds) ≡ ds
list_of-items_of [] = refl
list_of-items_of (d ∷ ds) = ap (λ l. d ∷ l) (list_of-items_of ds)

-- the items of an array are the data of its values
pub list_of-items_view : (vs : List Value) → list_of (items_view vs) ≡ map view vs
list_of-items_view vs = list_of-items_of (map view vs)

pub map_viewed : {A : Type 0} (f : Data → A) (vs : List Value) → map (λ v. f (view v)) vs ≡ map f (map view vs)
map_viewed f [] = refl
map_viewed f (v ∷ vs) = ap (λ l. f (view v) ∷ l) (map_viewed f vs)

-- the arguments of processes that have none
pub no_words : (ds : List Data) → args_of None (map row_of ds) ≡ map (λ d. []) ds
no_words [] = refl
no_words (d ∷ ds) = ap (λ l. [] ∷ l) (no_words ds)

drop_viewed : (vs : List Value) → map view (drop 1 vs) ≡ drop 1 (map view vs)
drop_viewed [] = refl
drop_viewed (v ∷ vs) = refl

-- all values but the first
tail_viewed : (vs : List Value) → map view (take (length vs - 1) (drop 1 vs)) ≡ drop 1 (map view vs)
tail_viewed vs =
    let whole : take (length vs - 1) (drop 1 vs) ≡ drop 1 vs = rw (← length-drop 1 vs) (take-length (drop 1 vs)) in
    ap (map view) whole ∙ drop_viewed vs

-- values of a form, where those but the first are integers
pub form_viewed : (word : List ℕ) (count : ℕ) (vs : List Value) (begins integers : Bool) → begins ≡ begins_with word (map view vs) → begins ≡ true → length vs ≡ count → integers ≡ list_all is_integer (map view (take (length vs - 1) (drop 1 vs))) → integers ≡ is_form word count (map view vs)
form_viewed word count vs begins integers e holds many pass =
    let ds = map view vs in
    let same : length ds ≡ length vs = length-map vs view in
    let counted : (length ds == count) ≡ true = grind (arith, nat_tests) in
    pass ∙ (ap (list_all is_integer) (tail_viewed vs)
    ∙ sym (ap (λ b. (b && (length ds == count)) && list_all is_integer (drop 1 ds)) (sym e ∙ holds)
    ∙ ap (λ b. b && list_all is_integer (drop 1 ds)) counted))

pub keys_viewed : {P : Type 0} (meaning : Meaning P) (es : List (String Global × Value)) → list_all (λ k. is_known_key meaning (string_bytes k)) (map (λ (e : String Global × Value). e.0) es) ≡ has_known_keys meaning (members_view es)
keys_viewed meaning [] = refl
keys_viewed meaning (e ∷ es) = ap (λ b. is_known_key meaning (string_bytes e.0) && b) (keys_viewed meaning es)

pub tree_of-text : (bs : List ℕ) → IsUtf8 bs → tree_of bs ≡ parse_document bs
tree_of-text bs h = rw (is_utf8-from_IsUtf8 bs h)

pub tree_of-other : (bs : List ℕ) → ¬ IsUtf8 bs → tree_of bs ≡ None
tree_of-other bs h =
    elim (is_utf8 bs) as (λ b. is_utf8 bs ≡ b → cond b (parse_document bs) None ≡ None) [ true ↦ λ e. absurd (h (IsUtf8-from_is_utf8 bs e)) | false ↦ λ e. refl ] refl
