-- The table of a session's document says the same program, and its input.
use Rattle.std.proofs.Common.{◌≡◌, ℕ, pos, Bool, true, false, not, cond, ◌&&◌, ◌||◌, ◌==◌, List, [], ◌∷◌, map, length, codes, Option, Some, None, Ok, Err, nat_le, nat_lt, refl, sym, ap, ◌∙◌, inl, inr, arith}
use Rattle.std.specs.List.{list_all, list_any}
use Rattle.std.proofs.lemmas.Bool.{cases_Bool, and_parts, false≢true}
use Rattle.std.proofs.lemmas.Bool.Decides.{nat_tests}
use Rattle.std.proofs.lemmas.List.{length-map}
use Rattle.std.proofs.lemmas.Option.{none-some}
use Rattle.bsp_model.specs.Limits.{highest_price, most_arguments, most_memory_words, most_processes}
use Rattle.toml.specs.Data.{Data, integer, array, Members, no_members, member, get_member, same_key}
use Rattle.toml.specs.View.{items_of}
use Rattle.toml.specs.Tables.{Node, Nodes, no_nodes, node, get_node, close}
use Rattle.toml.proofs.NodeLaws.{same_key-self}
use Rattle.bsp_model.specs.declared.input.Input.{Input}
use Rattle.bsp_model.specs.declared.fault.InputFault.{InputFault}
use Rattle.bsp_model.specs.Input.{input_fault}
use Rattle.bsp_engine.specs.declared.errors.JobFault.{JobFault}
use Rattle.bsp_engine.specs.declared.errors.JobFault.TheVariants.{MissingKey, WrongType, UnknownKey, BadWord}
use Rattle.bsp_engine.specs.declared.jobs.Job.{Job}
use Rattle.bsp_engine.specs.Catalogue.{Meaning, AgreeOnKeys, ReadsOwnKeys}
use Rattle.bsp_engine.specs.JobOf.{job_of_tree, job_unless, job_named, job_with}
use Rattle.bsp_engine.specs.Keys.{is_integer, is_row, is_rows, is_known_key, has_known_keys, has_required_keys, has_right_shapes, key_fault}
use Rattle.bsp_engine.specs.Signs.{has_negative, has_negative_word}
use Rattle.bsp_engine.specs.Sizes.{is_short, described_fault}
use Rattle.bsp_engine.specs.Tree.{elements, is_negative}
use Rattle.bsp_engine.specs.Values.{word_of, row_of, input_of, batches_of}
use Rattle.bsp_engine.proofs.Beside.{text_of}
use Rattle.bsp_engine.proofs.LawfulInputs.{faultless}
use Rattle.bsp_engine.proofs.Trees.{list_of-items_of}
use Rattle.bsp_engine.proofs.LookUps.{get-cons}

module _ {P : Type 0} (meaning : Meaning P) where
  known_step : (k : List ℕ) (x : Node) (ns : Nodes) → ((l : List ℕ) → is_known_key meaning l ≡ false → get_node l (node k x ns) ≡ None) → (l : List ℕ) → is_known_key meaning l ≡ false → get_node l ns ≡ None
  known_step k x ns h l unknown =
      elim (cases_Bool (same_key l k)) [
        | inl tie ↦ absurd (none-some x (sym (rw tie at (h l unknown))))
        | inr other ↦ rw other at (h l unknown)
      ]

  pub known_from : (ns : Nodes) → ((l : List ℕ) → is_known_key meaning l ≡ false → get_node l ns ≡ None) → has_known_keys meaning (close ns) ≡ true
  known_from no_nodes h = refl
  known_from (node k x ns) h =
      elim (cases_Bool (is_known_key meaning k)) [
        | inl known ↦ rw known (known_from ns (known_step k x ns h))
        | inr unknown ↦ absurd (none-some x (sym (rw (same_key-self k) at (h k unknown))))
      ]

  pub unknown_none : (l : List ℕ) (ms : Members) → has_known_keys meaning ms ≡ true → is_known_key meaning l ≡ false → get_member l ms ≡ None
  unknown_none l no_members all unknown = refl
  unknown_none l (member k d ms) all unknown =
      let (here, more) = and_parts (is_known_key meaning k) (has_known_keys meaning ms) all in
      elim (cases_Bool (same_key l k)) [
        | inl tie ↦ absurd (false≢true (sym unknown ∙ (ap (is_known_key meaning) (text_of l k tie) ∙ here)))
        | inr other ↦ get-cons l k d ms ∙ rw other (unknown_none l ms more unknown)
      ]

  -- ---- what an accepted document has

  unless_none : (f : Option JobFault) (t : Members) (job : Job P) → job_unless meaning f t ≡ Ok job → (f ≡ None) × (job_named meaning (meaning.program_of t) t ≡ Ok job)
  unless_none None t job e = (refl, e)
  unless_none (Some fault) t job e = let no : ⊥ = cc in absurd no

  named_some : (o : Option P) (t : Members) (job : Job P) → job_named meaning o t ≡ Ok job → (p : P) × (o ≡ Some p) × (job_with meaning p (described_fault t) t ≡ Ok job)
  named_some None t job e = let no : ⊥ = cc in absurd no
  named_some (Some p) t job e = (p, refl, e)

  sign_none : (p : P) (b : Bool) (input : Input) (job : Job P) (batches : List _) → cond b (Err BadWord) (Ok (record { program = p; input = input; batches = batches })) ≡ Ok job → (b ≡ false) × (p ≡ job.program)
  sign_none p true input job batches e = let no : ⊥ = cc in absurd no
  sign_none p false input job batches e = (refl, let same : record { program = p; input = input; batches = batches } ≡ job = cc in ap (λ (j : Job P). j.program) same)

  with_none : (p : P) (f : Option InputFault) (t : Members) (job : Job P) → job_with meaning p f t ≡ Ok job → (has_negative_word meaning t ≡ false) × (p ≡ job.program)
  with_none p None t job e = sign_none p (has_negative_word meaning t) (input_of t) job (batches_of t) e
  with_none p (Some fault) t job e = let no : ⊥ = cc in absurd no

  all_three : (a b c : Bool) → cond (not a) (Some MissingKey) (cond (not b) (Some WrongType) (cond (not c) (Some UnknownKey) None)) ≡ None → (a ≡ true) × (b ≡ true) × (c ≡ true)
  all_three true true true e = (refl, refl, refl)
  all_three false b c e = absurd (none-some _ (sym e))
  all_three true false c e = absurd (none-some _ (sym e))
  all_three true true false e = absurd (none-some _ (sym e))

  first_five : (a b c d e : Bool) → (a && b && c && d && e) ≡ true → a ≡ true
  first_five true b c d e h = refl
  first_five false b c d e h = absurd (false≢true h)

  first_seven : (a b c d e f g : Bool) → (a && b && c && d && e && f && g) ≡ true → a ≡ true
  first_seven true b c d e f g h = refl
  first_seven false b c d e f g h = absurd (false≢true h)

  first_four : (a b c d : Bool) → (a || b || c || d) ≡ false → a ≡ false
  first_four true b c d h = absurd (false≢true (sym h))
  first_four false b c d h = refl

  pub record Accepts (t : Members) (p : P) : Type 0 where
    pub required : meaning.has_required_keys t ≡ true
    pub shapes : meaning.has_right_shapes t ≡ true
    pub known : has_known_keys meaning t ≡ true
    pub program : meaning.program_of t ≡ Some p
    pub signs : meaning.has_negative_word t ≡ false

  pub accepted : (t : Members) (job : Job P) → job_of_tree meaning (Some t) ≡ Ok job → Accepts t job.program
  accepted t job e =
      let (no_fault, named) = unless_none (key_fault meaning t) t job e in
      let (p, is, with_p) = named_some (meaning.program_of t) t job named in
      let (signs, same) = with_none p (described_fault t) t job with_p in
      let (required, shapes, known) = all_three (has_required_keys meaning t) (has_right_shapes meaning t) (has_known_keys meaning t) no_fault in
      record {
        required = first_five _ _ _ _ _ required;
        shapes = first_seven _ _ _ _ _ _ _ shapes;
        known = known;
        program = is ∙ ap Some same;
        signs = first_four _ _ _ _ signs;
      }

-- ---- the input as data

abbrev pub word_data : ℕ → Data
word_data w = integer (pos w)

abbrev pub words_data : List ℕ → Data
words_data ws = array (items_of (map word_data ws))

abbrev pub rows_data : List (List ℕ) → Data
rows_data rows = array (items_of (map words_data rows))

elements-words : (ws : List ℕ) → elements (words_data ws) ≡ map word_data ws
elements-words ws = list_of-items_of (map word_data ws)

elements-rows : (rows : List (List ℕ)) → elements (rows_data rows) ≡ map words_data rows
elements-rows rows = list_of-items_of (map words_data rows)

all_integers : (ws : List ℕ) → list_all is_integer (map word_data ws) ≡ true
all_integers [] = refl
all_integers (w ∷ ws) = all_integers ws

row_shape : (ws : List ℕ) → is_row (words_data ws) ≡ true
row_shape ws = rw (elements-words ws) (all_integers ws)

all_rows : (rows : List (List ℕ)) → list_all is_row (map words_data rows) ≡ true
all_rows [] = refl
all_rows (ws ∷ rows) = rw (row_shape ws) (all_rows rows)

rows_shape : (rows : List (List ℕ)) → is_rows (rows_data rows) ≡ true
rows_shape rows = rw (elements-rows rows) (all_rows rows)

no_word_negative : (ws : List ℕ) → list_any is_negative (map word_data ws) ≡ false
no_word_negative [] = refl
no_word_negative (w ∷ ws) = no_word_negative ws

row_signs : (ws : List ℕ) → has_negative (words_data ws) ≡ false
row_signs ws = rw (elements-words ws) (no_word_negative ws)

rows_signs : (rows : List (List ℕ)) → list_any has_negative (map words_data rows) ≡ false
rows_signs [] = refl
rows_signs (ws ∷ rows) = rw (row_signs ws) (rows_signs rows)

words_again : (ws : List ℕ) → map word_of (map word_data ws) ≡ ws
words_again [] = refl
words_again (w ∷ ws) = ap (λ l. w ∷ l) (words_again ws)

row_again : (ws : List ℕ) → row_of (words_data ws) ≡ ws
row_again ws = ap (map word_of) (elements-words ws) ∙ words_again ws

rows_again : (rows : List (List ℕ)) → map row_of (map words_data rows) ≡ rows
rows_again [] = refl
rows_again (ws ∷ rows) = rw (row_again ws) (ap (λ l. ws ∷ l) (rows_again rows))

short_words : (n : ℕ) (ws : List ℕ) → nat_le (length ws) n ≡ is_short n (words_data ws)
short_words n ws = ap (λ (k : ℕ). nat_le k n) (sym (ap length (elements-words ws) ∙ length-map ws word_data))

short_rows : (n : ℕ) (rows : List (List ℕ)) → list_all (λ m. nat_le (length m) n) rows ≡ list_all (is_short n) (map words_data rows)
short_rows n [] = refl
short_rows n (ws ∷ rows) = ap (λ b. b && list_all (λ m. nat_le (length m) n) rows) (short_words n ws) ∙ ap (λ b. is_short n (words_data ws) && b) (short_rows n rows)

-- what a table has at the keys that each document may have
pub record HasInput (t : Members) (i : Input) : Type 0 where
  pub limit : get_member (codes "limit") t ≡ Some (integer (pos i.limit))
  pub g : get_member (codes "g") t ≡ Some (integer (pos i.g))
  pub l : get_member (codes "l") t ≡ Some (integer (pos i.l))
  pub memory : get_member (codes "memory") t ≡ Some (rows_data i.mems)
  pub args : get_member (codes "args") t ≡ Some (rows_data i.args)
  pub batches : get_member (codes "batches") t ≡ None

both_prices : (g l : ℕ) → (nat_le g highest_price && nat_le l highest_price) ≡ true → ((nat_le 0 g && nat_le g highest_price) && (nat_le 0 l && nat_le l highest_price)) ≡ true
both_prices g l h =
    let both = and_parts (nat_le g highest_price) (nat_le l highest_price) h in
    let zero_g : nat_le 0 g ≡ true = grind (arith, nat_tests) in
    let zero_l : nat_le 0 l ≡ true = grind (arith, nat_tests) in
    rw (zero_g, zero_l, both.0, both.1) refl

described : (t : Members) (i : Input) → HasInput t i → input_fault i ≡ None → described_fault t ≡ None
described t i h none =
    let mems = i.mems in
    let ds = map words_data mems in
    let count : length mems ≡ length ds = sym (length-map mems words_data) in
    let args_count : length i.args ≡ length (map words_data i.args) = sym (length-map i.args words_data) in
    rw (h.memory, h.args, h.limit, h.g, h.l, elements-rows mems, elements-rows i.args)
    (faultless _ _ _ _ _ _ _ _ _ _ _ _ _ _ (ap (λ (n : ℕ). n == 0) count) (ap (λ (n : ℕ). nat_lt most_processes n) count)
    (ap (λ (n : ℕ). n == length mems) args_count ∙ ap (λ (n : ℕ). length (map words_data i.args) == n) count)
    (short_rows most_memory_words mems) (short_rows most_arguments i.args) (λ f. f) (both_prices i.g i.l) none)

module _ {P : Type 0} (meaning : Meaning P) (reads : ReadsOwnKeys meaning) where
  pub same_job : (t ft : Members) (i : Input) (p : P) → AgreeOnKeys meaning t ft → HasInput t i → Accepts meaning ft p → has_known_keys meaning t ≡ true → input_fault i ≡ None
      → job_of_tree meaning (Some t) ≡ Ok (record { program = p; input = i; batches = [] })
  same_job t ft i p agree h a known none =
      let required : meaning.has_required_keys t ≡ true = reads.required_keys t ft agree ∙ a.required in
      let shapes : meaning.has_right_shapes t ≡ true = reads.right_shapes t ft agree ∙ a.shapes in
      let program : meaning.program_of t ≡ Some p = reads.program t ft agree ∙ a.program in
      let signs : meaning.has_negative_word t ≡ false = reads.negative_word t ft agree ∙ a.signs in
      let keys : key_fault meaning t ≡ None = rw (required, shapes, known, h.limit, h.g, h.l, h.memory, h.args, h.batches, rows_shape i.mems, rows_shape i.args) refl in
      let sign : has_negative_word meaning t ≡ false =
      rw (signs, h.memory, h.args, h.batches, elements-rows i.mems, elements-rows i.args, rows_signs i.mems, rows_signs i.args) refl in
      let input : input_of t ≡ i = rw (h.limit, h.g, h.l, h.memory, h.args, elements-rows i.mems, elements-rows i.args, rows_again i.mems, rows_again i.args) refl in
      let batches : batches_of t ≡ [] = rw (h.batches) refl in
      rw (keys, program, described t i h none, sign, input, batches) refl
