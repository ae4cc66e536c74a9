-- What the lines of some keys do to nodes that have other keys already: they leave those as they are, and do to theirs what they do alone.
use Rattle.std.proofs.Common.{◌≡◌, ℕ, Ordering, Less, Equal, Greater, nat_cmp, is_eq, Bool, true, false, cond, List, [], ◌∷◌, Option, Some, None, option_map, option_and_then, refl, sym, ap, subst, ◌∙◌, inl, inr, ◌⊎◌}
use Rattle.std.specs.Cmp.Lexicographic.{slice_cmp, same_text}
use Rattle.std.proofs.lemmas.Bool.{cases_Bool}
use Rattle.std.proofs.lemmas.Option.{none-some, same_Some}
use Rattle.std.proofs.lemmas.Map.Text.{is_eq-slice_cmp}
use Rattle.toml.specs.Data.{Data, string, integer, float, boolean, datetime, table, array, Items, item, no_items, Members, member, no_members, same_key}
use Rattle.toml.specs.Tables.{Node, Nodes, no_nodes, node, open_table, implicit, get_node, insert, replace, Edit, redefine, at_found, at_key, key_value, std_table, array_table, Definition, header_node, by_header, along_header, along_dots, put, new_node}
use Rattle.toml.specs.Text.{is_section, needs_header}
use Rattle.toml.proofs.NodeLaws.{seq, keep, get_node-insert, get_node-replace}
use Rattle.toml.proofs.Fill.{fill, fill_pairs, fill_section, fill_sections, fill_elements}

pub text_of : (k l : List ℕ) → same_key k l ≡ true → k ≡ l
text_of k l same = same_text k l (sym same ∙ is_eq-slice_cmp k l)

cases_ordering : (o : Ordering) → (o ≡ Less) ⊎ ((o ≡ Equal) ⊎ (o ≡ Greater))
cases_ordering Less = inl refl
cases_ordering Equal = inr (inl refl)
cases_ordering Greater = inr (inr refl)

insert_other : (k l : List ℕ) (x : Node) (ns : Nodes) → same_key l k ≡ false → get_node l (insert k x ns) ≡ get_node l ns
insert_other k l x no_nodes other = rw other refl
insert_other k l x (node m y ns) other =
    elim (cases_ordering (slice_cmp nat_cmp k m)) [
      | inl less ↦ rw (less, other) refl
      | inr more ↦ elim more [
        | inl tie ↦
            let same : k ≡ m = text_of k m (ap is_eq tie) in
            let apart : same_key l m ≡ false = ap (same_key l) (sym same) ∙ other in
            rw (tie, apart) refl
        | inr above ↦ rw above (ap (λ o. cond (same_key l m) (Some y) o) (insert_other k l x ns other))
      ]
    ]

replace_other : (k l : List ℕ) (x : Node) (ns : Nodes) → same_key l k ≡ false → get_node l (replace k x ns) ≡ get_node l ns
replace_other k l x no_nodes other = refl
replace_other k l x (node m y ns) other =
    elim (cases_Bool (same_key k m)) [
      | inl tie ↦
          let apart : same_key l m ≡ false = ap (same_key l) (sym (text_of k m tie)) ∙ other in
          rw (tie, apart) refl
      | inr above ↦ rw above (ap (λ o. cond (same_key l m) (Some y) o) (replace_other k l x ns other))
    ]

-- an edit of one key writes what goes by what is there
abbrev written : List ℕ → Nodes → Option Node → Option Node → Option Nodes
written k ns o None = None
written k ns None (Some y) = Some (insert k y ns)
written k ns (Some x) (Some y) = Some (replace k y ns)

abbrev IsLocal : List ℕ → Edit → Type 0
IsLocal k edit = (write : Option Node → Option Node) × ((ns : Nodes) → edit ns ≡ written k ns (get_node k ns) (write (get_node k ns)))

written_same : (k : List ℕ) (a b a2 : Nodes) (o p : Option Node) → get_node k a ≡ o → get_node k b ≡ o → written k a o p ≡ Some a2 → (b2 : Nodes) × (written k b o p ≡ Some b2) × (get_node k b2 ≡ get_node k a2)
written_same k a b a2 o None ga gb made = absurd (none-some a2 made)
written_same k a b a2 None (Some y) ga gb made =
    (insert k y b, refl, get_node-insert k y b ∙ sym (ap (get_node k) (sym (same_Some (insert k y a) a2 made)) ∙ get_node-insert k y a))
written_same k a b a2 (Some x) (Some y) ga gb made =
    (replace k y b, refl, get_node-replace k y b x gb ∙ sym (ap (get_node k) (sym (same_Some (replace k y a) a2 made)) ∙ get_node-replace k y a x ga))

written_others : (k l : List ℕ) (a a2 : Nodes) (o p : Option Node) → same_key l k ≡ false → written k a o p ≡ Some a2 → get_node l a2 ≡ get_node l a
written_others k l a a2 o None other made = absurd (none-some a2 made)
written_others k l a a2 None (Some y) other made = ap (get_node l) (sym (same_Some (insert k y a) a2 made)) ∙ insert_other k l y a other
written_others k l a a2 (Some x) (Some y) other made = ap (get_node l) (sym (same_Some (replace k y a) a2 made)) ∙ replace_other k l y a other

abbrev write_at_key : Definition → Option Node → Option Node
write_at_key what None = Some (new_node what)
write_at_key what (Some x) = redefine what x

found_written : (k : List ℕ) (what : Definition) (ns : Nodes) (o : Option Node) → at_found k what ns o ≡ written k ns o (write_at_key what o)
found_written k what ns None = refl
found_written k what ns (Some x) = redefined (redefine what x)
  where
    redefined : (p : Option Node) → option_map (λ y. replace k y ns) p ≡ written k ns (Some x) p
    redefined None = refl
    redefined (Some y) = refl

local_at_key : (k : List ℕ) (what : Definition) → IsLocal k (at_key k what)
unfolding at_key
local_at_key k what = (write_at_key what, λ ns. found_written k what ns (get_node k ns))

local_put : (k : List ℕ) (d : Data) → IsLocal k (put ([], k) d)
unfolding along_dots
local_put k d = local_at_key k (key_value d)

abbrev write_along : Edit → Option Node → Option Node
write_along e None = option_map (open_table implicit) (e no_nodes)
write_along e (Some x) = header_node e x

header_written : (k : List ℕ) (e : Edit) (ns : Nodes) (o : Option Node) → by_header k e ns o ≡ written k ns o (write_along e o)
header_written k e ns None = missing (e no_nodes)
  where
    missing : (p : Option Nodes) → option_map (λ new. insert k (open_table implicit new) ns) p ≡ written k ns None (option_map (open_table implicit) p)
    missing None = refl
    missing (Some y) = refl
header_written k e ns (Some x) = found (header_node e x)
  where
    found : (p : Option Node) → option_map (λ new. replace k new ns) p ≡ written k ns (Some x) p
    found None = refl
    found (Some y) = refl

local_along : (k : List ℕ) (e : Edit) → IsLocal k (along_header (k ∷ []) e)
unfolding along_header
local_along k e = (write_along e, λ ns. header_written k e ns (get_node k ns))

-- none of the members' keys is apart
abbrev pub AllOwn : (List ℕ → Bool) → Members → Type 0
AllOwn apart no_members = Unit {0}
AllOwn apart (member k d ms) = (apart k ≡ false) × AllOwn apart ms

module _ (apart : List ℕ → Bool) (others : Nodes) where
  -- b has the others at keys that are apart, and else what a has
  abbrev pub IsBeside : Nodes → Nodes → Type 0
  IsBeside a b = (l : List ℕ) → get_node l b ≡ cond (apart l) (get_node l others) (get_node l a)

  -- the edit does beside the others what it does alone
  abbrev pub Keeps : Edit → Type 0
  Keeps edit = (a b a2 : Nodes) → IsBeside a b → edit a ≡ Some a2 → (b2 : Nodes) × (edit b ≡ Some b2) × IsBeside a2 b2

  keeps_local : (k : List ℕ) (edit : Edit) → apart k ≡ false → IsLocal k edit → Keeps edit
  keeps_local k edit own local a b a2 beside made =
      let (write, is) = local in
      let at_k : get_node k b ≡ get_node k a = beside k ∙ rw own refl in
      let o = get_node k a in
      let made_here : written k a o (write o) ≡ Some a2 = sym (is a) ∙ made in
      let (b2, made_b, same) = written_same k a b a2 o (write o) refl at_k made_here in
      let made_there : edit b ≡ Some b2 = is b ∙ ap (λ p. written k b p (write p)) at_k ∙ made_b in
      let all : (l : List ℕ) → get_node l b2 ≡ cond (apart l) (get_node l others) (get_node l a2) =
      λ l. elim (cases_Bool (same_key l k)) [
        | inl tie ↦
            let text : l ≡ k = text_of l k tie in
            subst (λ m. get_node m b2 ≡ cond (apart m) (get_node m others) (get_node m a2)) (sym text) (same ∙ rw own refl)
        | inr other ↦
            written_others k l b b2 o (write o) other made_b ∙ beside l
            ∙ ap (λ p. cond (apart l) (get_node l others) p) (sym (written_others k l a a2 o (write o) other made_here))
      ] in
      (b2, made_there, all)

  keeps_keep : Keeps keep
  keeps_keep a b a2 beside made = (b, refl, λ l. beside l ∙ ap (λ ns. cond (apart l) (get_node l others) (get_node l ns)) (same_Some a a2 made))

  bind_some : (o : Option Nodes) (f : Edit) (r : Nodes) → option_and_then f o ≡ Some r → (mid : Nodes) × (o ≡ Some mid) × (f mid ≡ Some r)
  bind_some None f r e = absurd (none-some r e)
  bind_some (Some mid) f r e = (mid, refl, e)

  keeps_seq : (e f : Edit) → Keeps e → Keeps f → Keeps (seq e f)
  keeps_seq e f p q a b a2 beside made =
      let (mid, one, two) = bind_some (e a) f a2 made in
      let (mid2, one2, between) = p a b mid beside one in
      let (b2, two2, after) = q mid mid2 a2 between two in
      (b2, rw one2 two2, after)

  keeps_pairs : (ms : Members) → AllOwn apart ms → Keeps (fill_pairs ms)
  keeps_pairs no_members h = keeps_keep
  keeps_pairs (member k d ms) h =
      elim (cases_Bool (is_section d)) [
        | inl in_section ↦ rw in_section (keeps_pairs ms h.1)
        | inr pair ↦ rw pair (keeps_seq _ _ (keeps_local k _ h.0 (local_put k d)) (keeps_pairs ms h.1))
      ]

  keeps_elements : (ds : Items) (k : List ℕ) → apart k ≡ false → Keeps (fill_elements k ds)
  keeps_elements no_items k own = keeps_keep
  keeps_elements (item (string x) ds) k own = keeps_elements ds k own
  keeps_elements (item (integer x) ds) k own = keeps_elements ds k own
  keeps_elements (item (float x) ds) k own = keeps_elements ds k own
  keeps_elements (item (boolean x) ds) k own = keeps_elements ds k own
  keeps_elements (item (datetime x) ds) k own = keeps_elements ds k own
  keeps_elements (item (array xs) ds) k own = keeps_elements ds k own
  keeps_elements (item (table ms) ds) k own =
      keeps_seq _ _ (keeps_seq _ _ (keeps_local k _ own (local_at_key k array_table)) (keeps_local k _ own (local_along k _))) (keeps_elements ds k own)

  keeps_section : (d : Data) (k : List ℕ) → apart k ≡ false → Keeps (fill_section k d)
  keeps_section (string x) k own = keeps_keep
  keeps_section (integer x) k own = keeps_keep
  keeps_section (float x) k own = keeps_keep
  keeps_section (boolean x) k own = keeps_keep
  keeps_section (datetime x) k own = keeps_keep
  keeps_section (array ds) k own = keeps_elements ds k own
  keeps_section (table ms) k own =
      elim (cases_Bool (needs_header ms)) [
        | inl needed ↦ rw needed (keeps_seq _ _ (keeps_local k _ own (local_at_key k std_table)) (keeps_local k _ own (local_along k _)))
        | inr none ↦ rw none (keeps_local k _ own (local_along k _))
      ]

  keeps_sections : (ms : Members) → AllOwn apart ms → Keeps (fill_sections ms)
  keeps_sections no_members h = keeps_keep
  keeps_sections (member k d ms) h =
      elim (cases_Bool (is_section d)) [
        | inl in_section ↦ rw in_section (keeps_seq _ _ (keeps_section d k h.0) (keeps_sections ms h.1))
        | inr pair ↦ rw pair (keeps_sections ms h.1)
      ]

  -- what a table's lines do
  pub keeps_fill : (ms : Members) → AllOwn apart ms → Keeps (fill ms)
  keeps_fill ms h = keeps_seq _ _ (keeps_pairs ms h) (keeps_sections ms h)
