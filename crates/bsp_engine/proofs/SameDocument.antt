-- The document of a session is read again as a job of its program, with its input.
use Rattle.std.proofs.Common.{◌≡◌, ℕ, suc, pos, ◌+◌, ◌<◌, ◌≤◌, ◌^◌, Bool, true, false, cond, ◌==◌, List, [], ◌∷◌, ◌++◌, length, codes, decimal, Option, Some, None, option_map, option_and_then, Ok, nat_le, nat_lt, refl, sym, ap, ◌∙◌, inl, inr, arith, append_assoc, append-nil}
use Rattle.std.specs.Prelude.{IsSomeAnd}
use Rattle.std.specs.List.{list_all, list_any}
use Rattle.std.specs.Str.{IsUtf8, bytes_eq}
use Rattle.std.proofs.lemmas.Bool.{cases_Bool, and_parts, or_parts}
use Rattle.std.proofs.lemmas.Bool.Decides.{nat_tests}
use Rattle.std.proofs.lemmas.Option.{none-some, same_Some}
use Rattle.std.proofs.lemmas.Str.{IsUtf8-append, IsUtf8-from_ascii, IsUtf8-nil}
use Rattle.std.proofs.lemmas.Fmt.{IsAscii-decimal}
use Rattle.std.proofs.lemmas.Str.Ascii.{IsAscii-cons, IsAscii-nil}
use Rattle.std.specs.Str.{IsAscii}
use Rattle.bsp_model.specs.Limits.{highest_price, most_supersteps}
use Rattle.toml_parser.specs.Lexical.{skip_blank}
use Rattle.toml_writer.specs.Text.{key_text}
use Rattle.toml.specs.Data.{integer, Members, depth, has_valid_dates, members_depth, get_member}
use Rattle.toml.specs.Tables.{Document, Expression, Node, Nodes, no_nodes, node, value, get_node, close, close_node, at_key, along_dots, along_header, define, key_value}
use Rattle.toml.specs.Parse.{lines, parse_document, skip_bom}
use Rattle.toml.specs.Text.{IsValueText, IsLinesText, expressions}
use Rattle.toml.proofs.Turns.{document_some}
use Rattle.toml.proofs.ReadLines.{run, AllPrinted}
use Rattle.toml.proofs.Fill.{body_from, fill, roots, run-append, run_sections}
use Rattle.bsp_model.specs.declared.input.Input.{Input}
use Rattle.bsp_model.specs.Input.{input_fault}
use Rattle.bsp_engine.specs.declared.jobs.Job.{Job}
use Rattle.bsp_engine.specs.Catalogue.{Meaning, AgreeOnKeys, ReadsOwnKeys}
use Rattle.bsp_text.specs.DocumentText.{array_text, comma, document_text, entry, rows_line, words_text}
use Rattle.bsp_engine.specs.Document.{IsPrinted, own_members}
use Rattle.bsp_engine.specs.JobOf.{job_of, job_of_tree}
use Rattle.bsp_engine.specs.Keys.{HasKeysApart, common_keys, has_known_keys}
use Rattle.bsp_text.specs.Lines.{field, fields, line, numbered}
use Rattle.bsp_engine.specs.ReadsBack.{DocumentsReadBack, can_be_written}
use Rattle.bsp_engine.specs.Tree.{tree_of}
use Rattle.bsp_engine.proofs.Beside.{AllOwn, IsBeside, keeps_fill}
use Rattle.bsp_engine.proofs.LawfulInputs.{last_two}
use Rattle.bsp_engine.proofs.ReadAgain.{array_printed, document_printed, five_joined, five_lines, items_dated, items_shallow, own_run, pair_line, read_both}
use Rattle.bsp_engine.proofs.LookUps.{apart_keys, get-close, get-own, own_keys}
use Rattle.bsp_engine.proofs.SameJob.{HasInput, accepted, known_from, rows_data, same_job, unknown_none, word_data, words_data}
use Rattle.bsp_engine.proofs.Trees.{tree_of-text}

abbrev is_common : List ℕ → Bool
is_common k = list_any (bytes_eq k) common_keys

abbrev fits : ℕ → Bool
fits w = nat_lt w (2 ^ 63)

abbrev input_nodes : Input → Nodes
input_nodes i =
    node (codes "args") (value (rows_data i.args)) (node (codes "g") (value (integer (pos i.g))) (node (codes "l") (value (integer (pos i.l)))
    (node (codes "limit") (value (integer (pos i.limit))) (node (codes "memory") (value (rows_data i.mems)) no_nodes))))

abbrev input_lines : Input → List Expression
input_lines i =
    (([], codes "limit"), key_value (integer (pos i.limit))) ∷ (([], codes "g"), key_value (integer (pos i.g))) ∷ (([], codes "l"), key_value (integer (pos i.l)))
    ∷ (([], codes "memory"), key_value (rows_data i.mems)) ∷ (([], codes "args"), key_value (rows_data i.args)) ∷ []

input_text : Input → List ℕ
input_text i =
    line (codes "limit =") (i.limit ∷ []) ++ (line (codes "g =") (i.g ∷ []) ++ (line (codes "l =") (i.l ∷ [])
    ++ (rows_line (codes "memory") i.mems ++ (rows_line (codes "args") i.args ++ []))))

input_run : (i : Input) → run (no_nodes, []) (input_lines i) ≡ Some (input_nodes i, [])
unfolding define along_header along_dots at_key
input_run i = refl

-- ---- the text of the input

bare : (key_text (codes "limit") ≡ codes "limit") × (key_text (codes "g") ≡ codes "g") × (key_text (codes "l") ≡ codes "l") × (key_text (codes "memory") ≡ codes "memory") × (key_text (codes "args") ≡ codes "args")
unfolding key_text
bare = (refl, refl, refl, refl, refl)

word_printed : (w : ℕ) → fits w ≡ true → IsValueText false (word_data w) (decimal w)
word_printed w h = let below : w < 2 ^ 63 = grind (arith, nat_tests) in (refl, omega arith)

words_printed : (ws : List ℕ) → list_all fits ws ≡ true → IsValueText false (words_data ws) (words_text ws)
words_printed ws h = array_printed word_data decimal fits word_printed ws h

rows_printed : (rows : List (List ℕ)) → can_be_written rows ≡ true → IsValueText false (rows_data rows) (array_text words_text rows)
rows_printed rows h = array_printed words_data words_text (list_all fits) words_printed rows h

words_shallow : (ws : List ℕ) → depth (words_data ws) ≤ 1
words_shallow ws = let inner = items_shallow word_data 0 (λ w. omega arith) ws in omega arith

rows_shallow : (rows : List (List ℕ)) → depth (rows_data rows) ≤ 80
rows_shallow rows = let inner = items_shallow words_data 1 words_shallow rows in omega arith

rows_dated : (rows : List (List ℕ)) → has_valid_dates (rows_data rows) ≡ true
rows_dated rows = items_dated words_data (λ ws. items_dated word_data (λ w. refl) ws) rows

lines_printed : (i : Input) → AllPrinted (input_lines i)
lines_printed i = ((refl, omega arith, refl), ((refl, omega arith, refl), ((refl, omega arith, refl), ((refl, rows_shallow i.mems, rows_dated i.mems), ((refl, rows_shallow i.args, rows_dated i.args), tt)))))

line_text : (key word : List ℕ) (n : ℕ) → word ≡ key ++ codes " =" → line word (n ∷ []) ≡ key ++ (codes " = " ++ (decimal n ++ 10 ∷ []))
line_text key word n is = rw is (simp (append_assoc, append-nil) refl)

text_printed : (i : Input) → fits i.limit ≡ true → fits i.g ≡ true → fits i.l ≡ true → can_be_written i.mems ≡ true → can_be_written i.args ≡ true → IsLinesText false false (input_lines i) (input_text i)
unfolding input_text
text_printed i limit g l mems args =
    let (k1, k2, k3, k4, k5) = bare in
    five_lines (([], codes "limit"), key_value (integer (pos i.limit))) (([], codes "g"), key_value (integer (pos i.g))) (([], codes "l"), key_value (integer (pos i.l)))
    (([], codes "memory"), key_value (rows_data i.mems)) (([], codes "args"), key_value (rows_data i.args))
    (line (codes "limit =") (i.limit ∷ [])) (line (codes "g =") (i.g ∷ [])) (line (codes "l =") (i.l ∷ [])) (rows_line (codes "memory") i.mems) (rows_line (codes "args") i.args)
    (pair_line (codes "limit") (decimal i.limit) (line (codes "limit =") (i.limit ∷ [])) (integer (pos i.limit)) false k1 (line_text (codes "limit") (codes "limit =") i.limit refl) (word_printed i.limit limit))
    (pair_line (codes "g") (decimal i.g) (line (codes "g =") (i.g ∷ [])) (integer (pos i.g)) true k2 (line_text (codes "g") (codes "g =") i.g refl) (word_printed i.g g))
    (pair_line (codes "l") (decimal i.l) (line (codes "l =") (i.l ∷ [])) (integer (pos i.l)) true k3 (line_text (codes "l") (codes "l =") i.l refl) (word_printed i.l l))
    (pair_line (codes "memory") (array_text words_text i.mems) (rows_line (codes "memory") i.mems) (rows_data i.mems) true k4 refl (rows_printed i.mems mems))
    (pair_line (codes "args") (array_text words_text i.args) (rows_line (codes "args") i.args) (rows_data i.args) true k5 refl (rows_printed i.args args))

-- ---- it is UTF-8

ascii : (bs : List ℕ) → list_all (λ b. nat_lt b 128) bs ≡ true → IsAscii bs
ascii [] h = IsAscii-nil
ascii (b ∷ bs) h =
    let (here, more) = and_parts (nat_lt b 128) (list_all (λ c. nat_lt c 128) bs) h in
    let below : b < 128 = grind (arith, nat_tests) in
    IsAscii-cons b bs below (ascii bs more)

literal_utf8 : (bs : List ℕ) → list_all (λ b. nat_lt b 128) bs ≡ true → IsUtf8 bs
literal_utf8 bs h = IsUtf8-from_ascii bs (ascii bs h)

decimal_utf8 : (w : ℕ) → fits w ≡ true → IsUtf8 (decimal w)
decimal_utf8 w h = let below : w < 2 ^ 64 = grind (arith, nat_tests) in IsUtf8-from_ascii (decimal w) (IsAscii-decimal w below)

comma_utf8 : (n : ℕ) → IsUtf8 (comma n)
comma_utf8 n =
    elim (cases_Bool (n == 0)) [
      | inl first ↦ rw first IsUtf8-nil
      | inr later ↦ rw later (literal_utf8 (codes ", ") refl)
    ]

entries_utf8 : {A : Type 0} (text : A → List ℕ) (fit : A → Bool) → ((x : A) → fit x ≡ true → IsUtf8 (text x)) → (xs : List A) (n : ℕ) → list_all fit xs ≡ true → IsUtf8 (numbered (entry text) n xs)
entries_utf8 text fit each [] n all = IsUtf8-nil
entries_utf8 text fit each (x ∷ xs) n all =
    let (here, more) = and_parts (fit x) (list_all fit xs) all in
    IsUtf8-append (entry text n x) (numbered (entry text) (n + 1) xs) (IsUtf8-append (comma n) (text x) (comma_utf8 n) (each x here)) (entries_utf8 text fit each xs (n + 1) more)

array_utf8 : {A : Type 0} (text : A → List ℕ) (fit : A → Bool) → ((x : A) → fit x ≡ true → IsUtf8 (text x)) → (xs : List A) → list_all fit xs ≡ true → IsUtf8 (array_text text xs)
array_utf8 text fit each xs all =
    IsUtf8-append (codes "[") (numbered (entry text) 0 xs ++ codes "]") (literal_utf8 (codes "[") refl)
    (IsUtf8-append (numbered (entry text) 0 xs) (codes "]") (entries_utf8 text fit each xs 0 all) (literal_utf8 (codes "]") refl))

rows_utf8 : (rows : List (List ℕ)) → can_be_written rows ≡ true → IsUtf8 (array_text words_text rows)
rows_utf8 rows all = array_utf8 words_text (list_all fits) (λ ws h. array_utf8 decimal fits decimal_utf8 ws h) rows all

rows_line_utf8 : (key : List ℕ) (rows : List (List ℕ)) → IsUtf8 key → can_be_written rows ≡ true → IsUtf8 (rows_line key rows)
rows_line_utf8 key rows h all =
    IsUtf8-append ((key ++ codes " = ") ++ array_text words_text rows) (10 ∷ [])
    (IsUtf8-append (key ++ codes " = ") (array_text words_text rows) (IsUtf8-append key (codes " = ") h (literal_utf8 (codes " = ") refl)) (rows_utf8 rows all))
    (literal_utf8 (10 ∷ []) refl)

line_utf8 : (word : List ℕ) (n : ℕ) → IsUtf8 word → fits n ≡ true → IsUtf8 (line word (n ∷ []))
line_utf8 word n h fit =
    IsUtf8-append (word ++ fields (n ∷ [])) (10 ∷ [])
    (IsUtf8-append word (fields (n ∷ [])) h (IsUtf8-append (field n) [] (IsUtf8-append (32 ∷ []) (decimal n) (literal_utf8 (32 ∷ []) refl) (decimal_utf8 n fit)) IsUtf8-nil))
    (literal_utf8 (10 ∷ []) refl)

five_utf8 : (a b c d e rest : List ℕ) → IsUtf8 a → IsUtf8 b → IsUtf8 c → IsUtf8 d → IsUtf8 e → IsUtf8 rest → IsUtf8 (((((a ++ b) ++ c) ++ d) ++ e) ++ rest)
five_utf8 a b c d e rest ha hb hc hd he h =
    IsUtf8-append ((((a ++ b) ++ c) ++ d) ++ e) rest (IsUtf8-append (((a ++ b) ++ c) ++ d) e (IsUtf8-append ((a ++ b) ++ c) d (IsUtf8-append (a ++ b) c (IsUtf8-append a b ha hb) hc) hd) he) h

text_utf8 : (i : Input) (own : List ℕ) → fits i.limit ≡ true → fits i.g ≡ true → fits i.l ≡ true → can_be_written i.mems ≡ true → can_be_written i.args ≡ true → IsUtf8 own → IsUtf8 (document_text own i)
unfolding document_text
text_utf8 i own limit g l mems args h =
    let one = line_utf8 (codes "limit =") i.limit (literal_utf8 (codes "limit =") refl) limit in
    let two = line_utf8 (codes "g =") i.g (literal_utf8 (codes "g =") refl) g in
    let three = line_utf8 (codes "l =") i.l (literal_utf8 (codes "l =") refl) l in
    let four = rows_line_utf8 (codes "memory") i.mems (literal_utf8 (codes "memory") refl) mems in
    let five = rows_line_utf8 (codes "args") i.args (literal_utf8 (codes "args") refl) args in
    five_utf8 (line (codes "limit =") (i.limit ∷ [])) (line (codes "g =") (i.g ∷ [])) (line (codes "l =") (i.l ∷ [])) (rows_line (codes "memory") i.mems) (rows_line (codes "args") i.args) own one two three four five h

-- ---- it is read

text_joined : (i : Input) (own : List ℕ) → document_text own i ≡ input_text i ++ own
unfolding document_text input_text
text_joined i own =
    five_joined (line (codes "limit =") (i.limit ∷ [])) (line (codes "g =") (i.g ∷ [])) (line (codes "l =") (i.l ∷ [])) (rows_line (codes "memory") i.mems) (rows_line (codes "args") i.args) own

text_skipped : (i : Input) (own : List ℕ) → skip_bom (document_text own i) ≡ document_text own i
unfolding skip_bom document_text
text_skipped i own = refl

from_roots : (o : Option Document) (n : Nodes) → roots o ≡ Some n → (doc : Document) × (o ≡ Some doc) × (doc.0 ≡ n)
from_roots None n e = absurd (none-some n e)
from_roots (Some doc) n e = (doc, refl, same_Some doc.0 n e)

filled : (ms : Members) (ns : Nodes) → roots (run (ns, []) (expressions ms)) ≡ fill ms ns
unfolding along_header
filled ms ns = body_from ms [] ns refl (λ root s there. run_sections ms [] root s there)

not_there : (i : Input) (l : List ℕ) → is_common l ≡ false → get_node l (input_nodes i) ≡ None
not_there i l none =
    let (h1, r1) = or_parts _ _ none in
    let (h2, r2) = or_parts _ _ r1 in
    let (h3, r3) = or_parts _ _ r2 in
    let (h4, r4) = or_parts _ _ r3 in
    let (h5, r5) = or_parts _ _ r4 in
    rw (apart_keys l (codes "args") h5, apart_keys l (codes "g") h2, apart_keys l (codes "l") h3, apart_keys l (codes "limit") h1, apart_keys l (codes "memory") h4) refl

alone : (i : Input) → IsBeside is_common (input_nodes i) no_nodes (input_nodes i)
alone i l =
    elim (cases_Bool (is_common l)) [
      | inl common ↦ rw common refl
      | inr own ↦ rw own (not_there i l own)
    ]

read_document : (ms : Members) (own : List ℕ) (i : Input) → IsPrinted ms own → members_depth ms ≤ 80 → AllOwn is_common ms → IsLinesText false false (input_lines i) (input_text i)
    → (a b : Nodes) × (close a ≡ ms) × (parse_document (document_text own i) ≡ Some (close b)) × IsBeside is_common (input_nodes i) a b
read_document ms own i printed deep apart text =
    let es = expressions ms in
    let ok = document_printed ms deep printed.dates in
    let (doc, ran, closed) = own_run ms own printed.is ok (printed.reads_back deep) in
    let made : fill ms no_nodes ≡ Some doc.0 = sym (filled ms no_nodes) ∙ ap roots ran in
    let (b, beside_made, beside) = keeps_fill is_common (input_nodes i) ms apart no_nodes (input_nodes i) doc.0 (alone i) made in
    let whole = document_text own i in
    let read = read_both false false (input_lines i) es (input_text i) own whole (no_nodes, []) (suc (length whole)) text (lines_printed i) printed.is ok (ap skip_blank (text_joined i own)) (omega arith) in
    let (end, ended, same) = from_roots (run (input_nodes i, []) es) b (filled ms (input_nodes i) ∙ beside_made) in
    let all : run (no_nodes, []) (input_lines i ++ es) ≡ Some end = run-append (no_nodes, []) (input_lines i) es ∙ (ap (λ o. option_and_then (λ d. run d es) o) (input_run i) ∙ ended) in
    let parsed = document_some whole end (ap (lines (suc (length whole)) (no_nodes, [])) (text_skipped i own) ∙ (read ∙ all)) in
    (doc.0, b, closed, parsed ∙ ap (λ (n : Nodes). Some (close n)) same, beside)

-- ---- it is the job

map_cond : (b : Bool) (x y : Option Node) → option_map close_node (cond b x y) ≡ cond b (option_map close_node x) (option_map close_node y)
map_cond true x y = refl
map_cond false x y = refl

map_none : (o : Option Node) → option_map close_node o ≡ None → o ≡ None
map_none None e = refl
map_none (Some x) e = absurd (none-some _ (sym e))

small : (n : ℕ) → n < 2 ^ 63 → fits n ≡ true
small n h = grind (arith, nat_tests)

bounds : (i : Input) → input_fault i ≡ None → (fits i.limit ≡ true) × (fits i.g ≡ true) × (fits i.l ≡ true)
bounds i none =
    let (supersteps, prices) = last_two _ _ _ _ _ _ _ none in
    let limit = (and_parts (nat_le 1 i.limit) (nat_le i.limit most_supersteps) supersteps).1 in
    let (g, l) = and_parts (nat_le i.g highest_price) (nat_le i.l highest_price) prices in
    (small i.limit (grind (arith, nat_tests)), small i.g (grind (arith, nat_tests)), small i.l (grind (arith, nat_tests)))

module _ {P : Type 0} (meaning : Meaning P) (reads : ReadsOwnKeys meaning) (apart : HasKeysApart meaning) where
  law_for : (o : Option Members) (own : List ℕ) (job : Job P) (i : Input) → job_of_tree meaning o ≡ Ok job → IsSomeAnd o (λ t. IsPrinted (own_members t) own × (members_depth (own_members t) ≤ 80))
      → input_fault i ≡ None → can_be_written i.mems ≡ true → can_be_written i.args ≡ true → job_of meaning (document_text own i) ≡ Ok (record { program = job.program; input = i; batches = [] })
  law_for None own job i is given none mems args = absurd given
  law_for (Some ft) own job i is given none mems args =
      let ms = own_members ft in
      let (limit, g, l) = bounds i none in
      let (a, b, closed, parsed, beside) = read_document ms own i given.0 given.1 (own_keys ft) (text_printed i limit g l mems args) in
      let t = close b in
      let accepts = accepted meaning ft job is in
      let at : (k : List ℕ) → get_member k t ≡ cond (is_common k) (option_map close_node (get_node k (input_nodes i))) (get_member k ms) =
      λ k. get-close k b ∙ (ap (option_map close_node) (beside k) ∙ (map_cond (is_common k) (get_node k (input_nodes i)) (get_node k a)
      ∙ ap (λ o. cond (is_common k) (option_map close_node (get_node k (input_nodes i))) o) (sym (get-close k a) ∙ ap (get_member k) closed))) in
      let has : HasInput t i = record { limit = at (codes "limit"); g = at (codes "g"); l = at (codes "l"); memory = at (codes "memory"); args = at (codes "args"); batches = at (codes "batches") } in
      let agree : AgreeOnKeys meaning t ft = record {
        values = λ k own_key.
            let other = apart k own_key in
            at k ∙ (ap (λ q. cond q (option_map close_node (get_node k (input_nodes i))) (get_member k ms)) other ∙ get-own k ft other);
      } in
      let known : has_known_keys meaning t ≡ true = known_from meaning b (λ k unknown.
      let other = (or_parts (meaning.is_key k) (is_common k) unknown).1 in
      let nothing : option_map close_node (get_node k a) ≡ None = sym (get-close k a) ∙ (ap (get_member k) closed ∙ (get-own k ft other ∙ unknown_none meaning k ft accepts.known unknown)) in
      beside k ∙ (ap (λ q. cond q (get_node k (input_nodes i)) (get_node k a)) other ∙ map_none (get_node k a) nothing)) in
      ap (job_of_tree meaning) (tree_of-text (document_text own i) (text_utf8 i own limit g l mems args given.0.utf8) ∙ parsed)
      ∙ same_job meaning reads t ft i job.program agree has accepts known none

  pub documents_read_back : DocumentsReadBack meaning
  documents_read_back bytes own job i is given none mems args = law_for (tree_of bytes) own job i is given none mems args
