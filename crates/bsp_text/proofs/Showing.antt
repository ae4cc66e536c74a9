-- Lines of views and of turns.
use Rattle.std.proofs.Common.{◌≡◌, ◌<◌, ◌≤◌, ◌+◌, ◌-◌, ℕ, true, false, cond, List, [], ◌∷◌, ◌++◌, length, take, drop, get_or, slice_get, codes, Option, Some, refl, sym, ap, subst, ◌∙◌, append_assoc, arith}
use Rattle.std.specs.Prelude.{◌==◌, slice_range}
use Rattle.std.specs.List.{flat_map}
use Rattle.std.proofs.lemmas.Option.{get_or_from_slice_get, slice_get-get_or}
use Rattle.std.proofs.lemmas.List.{drop-drop, drop_more, get_or_default}
use Rattle.bsp_model.specs.declared.range.Range.{Range}
use Rattle.bsp_model.specs.declared.request.Store.{Store}
use Rattle.bsp_model.specs.StoredRanges.{range_before, ranges_stored}
use Rattle.bsp_table.specs.declared.area.Area.{Area}
use Rattle.bsp_table.specs.Table.{area_at, area_in}
use Rattle.bsp_step.specs.ViewParts.{ViewParts}
use Rattle.bsp_text.specs.Lines.{field, fields, line, numbered}
use Rattle.bsp_text.specs.TurnLines.{store_lines}
use Rattle.bsp_text.specs.ViewLines.{area_line, slot_line}
use Rattle.bsp_text.proofs.Numbering.{fields_grow, numbered_grows, pieces_grow}

-- a text that has a piece for each item so far, and then one for the item at the next place
pub piece_at : {A : Type 0} (piece : A → List ℕ) (text old new : List ℕ) (xs : List A) (i : ℕ) (x : A) → i < length xs → slice_get xs i ≡ Some x
    → old ≡ text ++ flat_map piece (take i xs) → new ≡ old ++ piece x → new ≡ text ++ flat_map piece (take (i + 1) xs)
piece_at piece text old new xs i x within is = pieces_grow piece text old new xs i x within (sym (get_or_from_slice_get xs i x x is))

-- the line of a slot has the area that the table has there
pub slot_told : (table : List (List Area)) (pid slot : ℕ) (area : Area) → slot < length table → area_at table (Some slot) pid ≡ Some area
    → slot_line pid slot (get_or table slot []) ≡ line (codes "slot") (slot ∷ area.start ∷ area.len ∷ [])
slot_told table pid slot area within is =
    ap (area_line slot) (ap (λ (o : Option (List Area)). area_in o pid) (sym (slice_get-get_or table slot [] within)) ∙ is)

-- a text that has the lines of the first slots, and then that of the next; the view is known by its parts
pub slots_grow : (v w : ViewParts) (text old new : List ℕ) (slot : ℕ) (area : Area) → v ≡ w → slot < length v.table → area_at v.table (Some slot) v.pid ≡ Some area
    → old ≡ text ++ numbered (slot_line w.pid) 0 (take slot w.table) → new ≡ old ++ line (codes "slot") (slot ∷ area.start ∷ area.len ∷ [])
    → new ≡ text ++ numbered (slot_line w.pid) 0 (take (slot + 1) w.table)
slots_grow v w text old new slot area are within there so_far next =
    let areas : List Area = get_or w.table slot [] in
    let inside : slot < length w.table = subst (λ (u : ViewParts). slot < length u.table) are within in
    let here : area_at w.table (Some slot) w.pid ≡ Some area = subst (λ (u : ViewParts). area_at u.table (Some slot) u.pid ≡ Some area) are there in
    numbered_grows (slot_line w.pid) text old new w.table slot areas inside (get_or_default w.table slot [] areas inside) so_far
    (next ∙ ap (λ l. old ++ l) (sym (slot_told w.table w.pid slot area inside here)))

-- how many words ranges have
abbrev pub words_in : List Range → ℕ
words_in [] = 0
words_in (r ∷ later) = r.len + words_in later

words_in-before : (addr : ℕ) (rs : List Range) → words_in (range_before addr rs) ≡ words_in rs + 1
words_in-before addr [] = refl
words_in-before addr (r ∷ later) =
    elim (r.start == addr + 1) as (λ b. words_in (cond b (record { start = addr; len = r.len + 1 } ∷ later) (record { start = addr; len = 1 } ∷ r ∷ later)) ≡ r.len + words_in later + 1) [
      | true ↦ omega arith
      | false ↦ omega arith
    ]

-- the ranges have as many words as were stored
pub words_in-stored : (stores : List Store) → words_in (ranges_stored stores) ≡ length stores
words_in-stored [] = refl
words_in-stored (s ∷ later) = words_in-before s.addr (ranges_stored later) ∙ omega (arith, words_in-stored later)

regroup : (old s f w l rest : List ℕ) → ((((old ++ s) ++ f) ++ w) ++ l) ++ rest ≡ old ++ (((s ++ (f ++ w)) ++ l) ++ rest)
regroup old s f w l rest = simp append_assoc

-- the line of one range more
pub stores_grow : (ranges : List Range) (words all old one two three new : List ℕ) (i from : ℕ) (r : Range) → i < length ranges → r ≡ get_or ranges i r
    → old ++ store_lines (drop i ranges) (drop from words) ≡ all → one ≡ old ++ codes "store" → two ≡ one ++ field r.start → three ≡ two ++ fields (slice_range words from (from + r.len)) → new ≡ three ++ 10 ∷ []
    → new ++ store_lines (drop (i + 1) ranges) (drop (from + r.len) words) ≡ all
stores_grow ranges words all old one two three new i from r within is so_far a b d e =
    let later = drop (i + 1) ranges in
    let part = slice_range words from (from + r.len) in
    let named = codes "store" in
    let start = field r.start in
    let count : from + r.len - from ≡ r.len = omega arith in
    let here : drop i ranges ≡ r ∷ later = drop_more ranges i r within ∙ ap (λ (q : Range). q ∷ later) (sym is) in
    let same : part ≡ take r.len (drop from words) = ap (λ (n : ℕ). take n (drop from words)) count in
    let behind : drop (from + r.len) words ≡ drop r.len (drop from words) = sym (drop-drop r.len from words) in
    ap (λ l. l ++ store_lines later (drop (from + r.len) words)) (e ∙ ap (λ l. l ++ 10 ∷ []) (d ∙ ap (λ l. l ++ fields part) (b ∙ ap (λ l. l ++ start) a)))
    ∙ regroup old named start (fields part) (10 ∷ []) (store_lines later (drop (from + r.len) words))
    ∙ (λ k. old ++ (((named ++ (start ++ fields (same k))) ++ 10 ∷ []) ++ store_lines later (behind k)))
    ∙ ap (λ (rs : List Range). old ++ store_lines rs (drop from words)) (sym here)
    ∙ so_far

-- so many words are left behind it
pub words_left : (ranges : List Range) (i from count : ℕ) (r : Range) → i < length ranges → r ≡ get_or ranges i r → from + words_in (drop i ranges) ≡ count → (from + r.len) + words_in (drop (i + 1) ranges) ≡ count
words_left ranges i from count r within is so_far =
    let here : words_in (drop i ranges) ≡ r.len + words_in (drop (i + 1) ranges) = ap words_in (drop_more ranges i r within) ∙ ap (λ (q : Range). q.len + words_in (drop (i + 1) ranges)) (sym is) in
    omega (arith, here, so_far)
