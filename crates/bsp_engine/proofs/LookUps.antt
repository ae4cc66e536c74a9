-- What is found in tables, and in those without some keys.
use Rattle.std.proofs.Common.{◌≡◌, ℕ, Ordering, Less, Equal, Greater, nat_cmp, is_eq, Bool, true, false, cond, ◌||◌, List, [], ◌∷◌, Option, Some, option_map, refl, sym, ap, subst, ◌∙◌, inl, inr}
use Rattle.std.specs.List.{list_any}
use Rattle.std.specs.Str.{bytes_eq}
use Rattle.std.specs.Ordering.{match_ordering}
use Rattle.std.specs.Cmp.Lexicographic.{slice_cmp}
use Rattle.std.proofs.lemmas.Bool.{cases_Bool, or_parts}
use Rattle.std.proofs.lemmas.Map.Text.{is_eq-slice_cmp}
use Rattle.toml.specs.Data.{Data, Members, no_members, member, get_member, same_key}
use Rattle.toml.specs.Tables.{Node, Nodes, no_nodes, node, get_node, close, close_node}
use Rattle.bsp_engine.specs.Document.{own_members, without, without_all}
use Rattle.bsp_engine.specs.Keys.{common_keys}
use Rattle.bsp_engine.proofs.Beside.{AllOwn, text_of}

flip : (k l : List ℕ) → same_key k l ≡ same_key l k
flip k l =
    elim (cases_Bool (same_key k l)) [
      | inl same ↦ subst (λ (m : List ℕ). same_key k m ≡ same_key m k) (text_of k l same) refl
      | inr apart ↦ elim (cases_Bool (same_key l k)) [
        | inl same ↦ subst (λ (m : List ℕ). same_key m l ≡ same_key l m) (text_of l k same) refl
        | inr other ↦ apart ∙ sym other
      ]
    ]

pub apart_keys : (k l : List ℕ) → bytes_eq k l ≡ false → same_key k l ≡ false
apart_keys k l e = is_eq-slice_cmp k l ∙ e

member_step : (o : Ordering) (d : Data) (rest : Option Data) → match_ordering o rest (Some d) rest ≡ cond (is_eq o) (Some d) rest
member_step Less d rest = refl
member_step Equal d rest = refl
member_step Greater d rest = refl

pub get-cons : (l k : List ℕ) (d : Data) (ms : Members) → get_member l (member k d ms) ≡ cond (same_key l k) (Some d) (get_member l ms)
get-cons l k d ms = member_step (slice_cmp nat_cmp l k) d (get_member l ms)

close_step : (b : Bool) (x : Node) (o : Option Node) → cond b (Some (close_node x)) (option_map close_node o) ≡ option_map close_node (cond b (Some x) o)
close_step true x o = refl
close_step false x o = refl

pub get-close : (k : List ℕ) (ns : Nodes) → get_member k (close ns) ≡ option_map close_node (get_node k ns)
get-close k no_nodes = refl
get-close k (node l x ns) =
    get-cons k l (close_node x) (close ns) ∙ (ap (λ o. cond (same_key k l) (Some (close_node x)) o) (get-close k ns) ∙ close_step (same_key k l) x (get_node k ns))

get-without : (key l : List ℕ) (ms : Members) → same_key l key ≡ false → get_member l (without key ms) ≡ get_member l ms
get-without key l no_members other = refl
get-without key l (member k d ms) other =
    elim (cases_Bool (same_key key k)) [
      | inl tie ↦
          let apart : same_key l k ≡ false = ap (same_key l) (sym (text_of key k tie)) ∙ other in
          rw tie (get-without key l ms other ∙ sym (get-cons l k d ms ∙ ap (λ b. cond b (Some d) (get_member l ms)) apart))
      | inr stays ↦
          rw stays (get-cons l k d (without key ms) ∙ (ap (λ o. cond (same_key l k) (Some d) o) (get-without key l ms other) ∙ sym (get-cons l k d ms)))
    ]

get-without_all : (keys : List (List ℕ)) (l : List ℕ) (ms : Members) → list_any (bytes_eq l) keys ≡ false → get_member l (without_all keys ms) ≡ get_member l ms
get-without_all [] l ms none = refl
get-without_all (key ∷ keys) l ms none =
    let (here, more) = or_parts (bytes_eq l key) (list_any (bytes_eq l) keys) none in
    get-without_all keys l (without key ms) more ∙ get-without key l ms (apart_keys l key here)

-- a key that is not common has what the whole table has there
pub get-own : (l : List ℕ) (ms : Members) → list_any (bytes_eq l) common_keys ≡ false → get_member l (own_members ms) ≡ get_member l ms
get-own l ms none = get-without_all common_keys l ms none

own_step : (key : List ℕ) (ms : Members) → AllOwn (λ k. bytes_eq k key) (without key ms)
own_step key no_members = tt
own_step key (member k d ms) =
    elim (cases_Bool (same_key key k)) [
      | inl tie ↦ rw tie (own_step key ms)
      | inr stays ↦ rw stays (sym (is_eq-slice_cmp k key) ∙ (flip k key ∙ stays), own_step key ms)
    ]

own_kept : (p : List ℕ → Bool) (key : List ℕ) (ms : Members) → AllOwn p ms → AllOwn p (without key ms)
own_kept p key no_members h = tt
own_kept p key (member k d ms) h =
    elim (cases_Bool (same_key key k)) [
      | inl tie ↦ rw tie (own_kept p key ms h.1)
      | inr stays ↦ rw stays (h.0, own_kept p key ms h.1)
    ]

own_kept_all : (p : List ℕ → Bool) (keys : List (List ℕ)) (ms : Members) → AllOwn p ms → AllOwn p (without_all keys ms)
own_kept_all p [] ms h = h
own_kept_all p (key ∷ keys) ms h = own_kept_all p keys (without key ms) (own_kept p key ms h)

own_either : (p q : List ℕ → Bool) (ms : Members) → AllOwn p ms → AllOwn q ms → AllOwn (λ k. p k || q k) ms
own_either p q no_members h i = tt
own_either p q (member k d ms) h i = (rw (h.0) (i.0), own_either p q ms h.1 i.1)

own_none : (ms : Members) → AllOwn (λ k. false) ms
own_none no_members = tt
own_none (member k d ms) = (refl, own_none ms)

own_all : (keys : List (List ℕ)) (ms : Members) → AllOwn (λ k. list_any (bytes_eq k) keys) (without_all keys ms)
own_all [] ms = own_none ms
own_all (key ∷ keys) ms =
    own_either (λ k. bytes_eq k key) (λ k. list_any (bytes_eq k) keys) (without_all keys (without key ms)) (own_kept_all (λ k. bytes_eq k key) keys (without key ms) (own_step key ms)) (own_all keys (without key ms))

pub own_keys : (ms : Members) → AllOwn (λ k. list_any (bytes_eq k) common_keys) (own_members ms)
own_keys ms = own_all common_keys ms
