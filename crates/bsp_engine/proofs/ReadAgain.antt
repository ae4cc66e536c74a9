-- The document of a session is read again as the table that it was printed for.
use Rattle.std.proofs.Common.{◌≡◌, ℕ, suc, ◌+◌, ◌-◌, ◌<◌, ◌≤◌, Bool, true, false, ◌==◌, List, [], ◌∷◌, ◌++◌, map, length, codes, Option, Some, None, option_map, option_and_then, refl, sym, ap, ◌∙◌, inl, inr, arith, append_assoc, length-append}
use Rattle.std.specs.List.{list_all}
use Rattle.std.proofs.lemmas.Bool.{cases_Bool, and_parts}
use Rattle.std.proofs.lemmas.Bool.Decides.{nat_tests}
use Rattle.std.proofs.lemmas.Option.{none-some, same_Some}
use Rattle.toml_parser.specs.Lexical.{skip_blank}
use Rattle.toml_writer.specs.Text.{key_text}
use Rattle.toml.specs.Data.{Data, string, integer, float, boolean, datetime, array, table, Items, no_items, item, Members, no_members, member, depth, items_depth, members_depth, has_valid_dates, items_have_valid_dates, members_have_valid_dates}
use Rattle.toml.specs.View.{items_of}
use Rattle.toml.specs.Tables.{Document, Expression, no_nodes, close, define, key_value}
use Rattle.toml.specs.Parse.{lines, line, parse_document, skip_bom}
use Rattle.toml.specs.Text.{IsValueText, IsItemsText, IsLineText, IsLinesText, IsDocumentText, breaks_lines, expressions, is_section, are_tables, needs_header, pairs, sections, section, elements}
use Rattle.toml.proofs.Turns.{lines_more, lines_refused}
use Rattle.toml.proofs.Blanks.{skip_newline, skip_within}
use Rattle.toml.proofs.ReadLines.{run, AllPrinted, line_turn, read_lines}
use Rattle.bsp_text.specs.DocumentText.{entry, array_text}
use Rattle.bsp_text.specs.Lines.{numbered}

-- ---- which lines are printed for a table

AllPrinted-append : (es fs : List Expression) → AllPrinted es → AllPrinted fs → AllPrinted (es ++ fs)
AllPrinted-append [] fs a b = b
AllPrinted-append (e ∷ es) fs a b = (a.0, AllPrinted-append es fs a.1 b)

pairs_printed : (ms : Members) → members_depth ms ≤ 80 → members_have_valid_dates ms ≡ true → AllPrinted (pairs ms)
pairs_printed no_members deep valid = tt
pairs_printed (member k d ms) deep valid =
    let (here, more) = and_parts (has_valid_dates d) (members_have_valid_dates ms) valid in
    let deep_here : depth d ≤ 80 = grind (arith, nat_tests) in
    let deep_more : members_depth ms ≤ 80 = grind (arith, nat_tests) in
    elim (cases_Bool (is_section d)) [
      | inl in_section ↦ rw in_section (pairs_printed ms deep_more more)
      | inr pair ↦ rw pair ((refl, deep_here, here), pairs_printed ms deep_more more)
    ]

mutual
  sections_printed : (ms : Members) (p : List (List ℕ)) → length p + members_depth ms ≤ 80 → members_have_valid_dates ms ≡ true → AllPrinted (sections p ms)
  sections_printed no_members p deep valid = tt
  sections_printed (member k d ms) p deep valid =
      let (here, more) = and_parts (has_valid_dates d) (members_have_valid_dates ms) valid in
      let deep_here : length p + depth d ≤ 80 = grind (arith, nat_tests) in
      let deep_more : length p + members_depth ms ≤ 80 = grind (arith, nat_tests) in
      AllPrinted-append _ _ (section_printed d p k deep_here here) (sections_printed ms p deep_more more)

  section_printed : (d : Data) (p : List (List ℕ)) (k : List ℕ) → length p + depth d ≤ 80 → has_valid_dates d ≡ true → AllPrinted (section (p, k) d)
  section_printed (string x) p k deep valid = tt
  section_printed (integer x) p k deep valid = tt
  section_printed (float x) p k deep valid = tt
  section_printed (boolean x) p k deep valid = tt
  section_printed (datetime x) p k deep valid = tt
  section_printed (array ds) p k deep valid =
      elim (cases_Bool (are_tables ds)) [
        | inl all ↦ rw all (elements_printed ds p k deep valid)
        | inr other ↦ rw other tt
      ]
  section_printed (table ms) p k deep valid =
      let lines_below = AllPrinted-append _ _ (pairs_printed ms (omega arith) valid) (sections_printed ms (p ++ k ∷ []) (omega (arith, length-append p (k ∷ []))) valid) in
      elim (cases_Bool (needs_header ms)) [
        | inl needed ↦ rw needed (omega arith, lines_below)
        | inr none ↦ rw none lines_below
      ]

  elements_printed : (ds : Items) (p : List (List ℕ)) (k : List ℕ) → length p + suc (items_depth ds) ≤ 80 → items_have_valid_dates ds ≡ true → AllPrinted (elements (p, k) ds)
  elements_printed no_items p k deep valid = tt
  elements_printed (item (string x) ds) p k deep valid = elements_printed ds p k (grind (arith, nat_tests)) valid
  elements_printed (item (integer x) ds) p k deep valid = elements_printed ds p k (grind (arith, nat_tests)) valid
  elements_printed (item (float x) ds) p k deep valid = elements_printed ds p k (grind (arith, nat_tests)) valid
  elements_printed (item (boolean x) ds) p k deep valid = elements_printed ds p k (grind (arith, nat_tests)) valid
  elements_printed (item (datetime x) ds) p k deep valid = elements_printed ds p k (grind (arith, nat_tests)) (and_parts _ _ valid).1
  elements_printed (item (array xs) ds) p k deep valid = elements_printed ds p k (grind (arith, nat_tests)) (and_parts _ _ valid).1
  elements_printed (item (table ms) ds) p k deep valid =
      let (here, more) = and_parts (members_have_valid_dates ms) (items_have_valid_dates ds) valid in
      let deep_here : length p + suc (suc (members_depth ms)) ≤ 80 = grind (arith, nat_tests) in
      let deep_more : length p + suc (items_depth ds) ≤ 80 = grind (arith, nat_tests) in
      (omega arith, AllPrinted-append _ _ (AllPrinted-append _ _ (pairs_printed ms (omega arith) here) (sections_printed ms (p ++ k ∷ []) (omega (arith, length-append p (k ∷ []))) here)) (elements_printed ds p k deep_more more))

pub document_printed : (ms : Members) → members_depth ms ≤ 80 → members_have_valid_dates ms ≡ true → AllPrinted (expressions ms)
document_printed ms deep valid = AllPrinted-append _ _ (pairs_printed ms deep valid) (sections_printed ms [] (omega arith) valid)

-- ---- lines before other lines

read_step : (m : ℕ) (doc : Document) (x : List ℕ) (e : Expression) (after : List ℕ) (es : List Expression) (defined : Option Document) → defined ≡ define doc e → 0 < m → (length (skip_blank x) == 0) ≡ false
    → line (skip_blank x) ≡ Some (e, after) → ((next : Document) → lines (m - 1) next after ≡ option_and_then (λ n. run n es) (Some next)) → lines m doc x ≡ option_and_then (λ n. run n es) defined
read_step m doc x e after es None same some other read more = lines_refused m doc x e after some other read (sym same)
read_step m doc x e after es (Some next) same some other read more = lines_more m doc next x e after some other read (sym same) ∙ more next

pub read_both : (s s2 : Bool) (es fs : List Expression) (t u x : List ℕ) (doc : Document) (m : ℕ) → IsLinesText false s es t → AllPrinted es → IsLinesText false s2 fs u → AllPrinted fs
    → skip_blank x ≡ skip_blank (t ++ u) → length x < m → lines m doc x ≡ run doc (es ++ fs)
read_both s s2 [] fs t u x doc m h ok i oki skip room =
    let none : t ++ u ≡ u = ap (λ l. l ++ u) h in
    read_lines false s2 fs u x doc m i oki (skip ∙ ap skip_blank none) room
read_both s s2 (e ∷ es) fs t u x doc m h ok i oki skip room =
    let (this, rest, whole, line_text, more) = h in
    let (st, at_start, read, some, shorter, not_bom) = line_turn false s e.0 e.1 this (rest ++ u) line_text ok.0 in
    let joined : t ++ u ≡ this ++ (rest ++ u) = ap (λ l. l ++ u) whole ∙ append_assoc this rest u in
    let same : skip_blank x ≡ st = skip ∙ (ap skip_blank joined ∙ at_start) in
    let other : (length (skip_blank x) == 0) ≡ false = rw same (grind (arith, nat_tests)) in
    let within = skip_within x in
    read_step m doc x e (10 ∷ (rest ++ u)) (es ++ fs) (define doc e) refl (omega arith) other (rw same read)
    (λ next. read_both true s2 es fs rest u (10 ∷ (rest ++ u)) next (m - 1) more ok.1 i oki (skip_newline (rest ++ u)) (omega (arith, ap length same)))

own_skipped : (es : List Expression) (text : List ℕ) → IsLinesText false false es text → AllPrinted es → skip_bom text ≡ text
unfolding skip_bom
own_skipped [] text h ok = rw h refl
own_skipped (e ∷ es) text h ok =
    let (this, rest, whole, line_text, more) = h in
    let turn = line_turn false false e.0 e.1 this rest line_text ok.0 in
    rw (whole, turn.5) refl

from_parsed : (o : Option Document) (ms : Members) → option_map (λ (doc : Document). close doc.0) o ≡ Some ms → (doc : Document) × (o ≡ Some doc) × (close doc.0 ≡ ms)
from_parsed None ms e = absurd (none-some ms e)
from_parsed (Some doc) ms e = (doc, refl, same_Some _ ms e)

-- a text that is printed, and read as the same members
pub own_run : (ms : Members) (text : List ℕ) → IsDocumentText false ms text → AllPrinted (expressions ms) → parse_document text ≡ Some ms
    → (doc : Document) × (run (no_nodes, []) (expressions ms) ≡ Some doc) × (close doc.0 ≡ ms)
unfolding parse_document
own_run ms text h ok parsed =
    let skipped = own_skipped (expressions ms) text h ok in
    let read = read_lines false false (expressions ms) text text (no_nodes, []) (suc (length text)) h ok refl (omega arith) in
    from_parsed (run (no_nodes, []) (expressions ms)) ms
    (ap (option_map (λ (doc : Document). close doc.0)) (sym (ap (lines (suc (length text)) (no_nodes, [])) skipped ∙ read)) ∙ parsed)

-- ---- the lines of the keys that each document has

pub items_text : {A : Type 0} (datum : A → Data) (text : A → List ℕ) (fits : A → Bool) → ((x : A) → fits x ≡ true → IsValueText false (datum x) (text x))
    → (xs : List A) (n : ℕ) (is_first : Bool) → is_first ≡ (n == 0) → list_all fits xs ≡ true → IsItemsText false false is_first (items_of (map datum xs)) (numbered (entry text) n xs ++ codes "]")
items_text datum text fits value [] n is_first at all = refl
items_text datum text fits value (x ∷ xs) n is_first at all =
    let (here, more) = and_parts (fits x) (list_all fits xs) all in
    let later : false ≡ (n + 1 == 0) = sym (grind (arith, nat_tests)) in
    let rest = numbered (entry text) (n + 1) xs ++ codes "]" in
    (text x, rest, rw at (simp append_assoc refl), value x here, items_text datum text fits value xs (n + 1) false later more)

no_breaks : (ds : Items) → breaks_lines false ds ≡ false
no_breaks no_items = refl
no_breaks (item d no_items) = refl
no_breaks (item d (item e ds)) = refl

pub array_printed : {A : Type 0} (datum : A → Data) (text : A → List ℕ) (fits : A → Bool) → ((x : A) → fits x ≡ true → IsValueText false (datum x) (text x))
    → (xs : List A) → list_all fits xs ≡ true → IsValueText false (array (items_of (map datum xs))) (array_text text xs)
array_printed datum text fits value xs all =
    (numbered (entry text) 0 xs ++ codes "]", refl, rw (no_breaks (items_of (map datum xs))) (items_text datum text fits value xs 0 true refl all))

pub items_shallow : {A : Type 0} (datum : A → Data) (m : ℕ) → ((x : A) → depth (datum x) ≤ m) → (xs : List A) → items_depth (items_of (map datum xs)) ≤ m
items_shallow datum m each [] = omega arith
items_shallow datum m each (x ∷ xs) =
    let here = each x in
    let more = items_shallow datum m each xs in
    grind (arith, nat_tests)

pub items_dated : {A : Type 0} (datum : A → Data) → ((x : A) → has_valid_dates (datum x) ≡ true) → (xs : List A) → items_have_valid_dates (items_of (map datum xs)) ≡ true
items_dated datum each [] = refl
items_dated datum each (x ∷ xs) = rw (each x) (items_dated datum each xs)

pub pair_line : (k this text : List ℕ) (d : Data) (started : Bool) → key_text k ≡ k → text ≡ k ++ (codes " = " ++ (this ++ 10 ∷ [])) → IsValueText false d this → IsLineText false started ([], k) (key_value d) text
pair_line k this text d started same is value = (this, rw same is, value)

-- five lines, one after the other
pub five_lines : (v w x y z : Expression) (a b c d e : List ℕ) → IsLineText false false v.0 v.1 a → IsLineText false true w.0 w.1 b → IsLineText false true x.0 x.1 c → IsLineText false true y.0 y.1 d → IsLineText false true z.0 z.1 e
    → IsLinesText false false (v ∷ w ∷ x ∷ y ∷ z ∷ []) (a ++ (b ++ (c ++ (d ++ (e ++ [])))))
five_lines v w x y z a b c d e la lb lc ld le =
    (a, b ++ (c ++ (d ++ (e ++ []))), refl, la, (b, c ++ (d ++ (e ++ [])), refl, lb, (c, d ++ (e ++ []), refl, lc, (d, e ++ [], refl, ld, (e, [], refl, le, refl)))))

pub five_joined : (a b c d e rest : List ℕ) → ((((a ++ b) ++ c) ++ d) ++ e) ++ rest ≡ (a ++ (b ++ (c ++ (d ++ (e ++ []))))) ++ rest
five_joined a b c d e rest = simp append_assoc refl
