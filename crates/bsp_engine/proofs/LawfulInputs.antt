-- The input of a document that describes no fault has none.
use Rattle.std.proofs.Common.{◌≡◌, ℕ, ℤ, Bool, true, false, ◌&&◌, List, [], ◌∷◌, map, length, cond, refl, ap, sym, ◌∙◌, arith, codes}
use Rattle.std.proofs.lemmas.List.{length-map}
use Rattle.std.proofs.lemmas.Bool.{and_parts}
use Rattle.std.proofs.lemmas.Bool.Decides.{nat_tests}
use Rattle.std.specs.Prelude.{Option, None, Some, pos, negsuc, ◌==◌, not, nat_le, nat_lt}
use Rattle.std.specs.List.{list_all}
use Rattle.bsp_model.specs.Limits.{highest_price, most_arguments, most_memory_words, most_processes, most_supersteps}
use Rattle.toml.specs.Data.{Data, Members, get_member}
use Rattle.bsp_model.specs.declared.fault.InputFault.{InputFault}
use Rattle.bsp_model.specs.declared.fault.InputFault.TheVariants.{NoProcess, TooMany, LengthsDiffer, MemoryTooLong, ArgsTooLong, BadLimit, BadPrice}
use Rattle.bsp_model.specs.Input.{input_fault}
use Rattle.bsp_engine.specs.Tree.{elements, elements_in, elements_at, integer_at, natural_of}
use Rattle.bsp_engine.specs.Sizes.{is_short, count_of_args, is_between, described_fault}
use Rattle.bsp_engine.specs.Values.{word_of, row_of, args_of, input_of}

-- the first fault, by the seven tests in their order
abbrev pub verdict : Bool → Bool → Bool → Bool → Bool → Bool → Bool → Option InputFault
verdict a b c d e f g =
    cond a (Some NoProcess) (cond b (Some TooMany) (cond (not c) (Some LengthsDiffer) (cond (not d) (Some MemoryTooLong)
    (cond (not e) (Some ArgsTooLong) (cond (not f) (Some BadLimit) (cond (not g) (Some BadPrice) None))))))

pub faultless : (a b c d e f g a1 b1 c1 d1 e1 f1 g1 : Bool) → a ≡ a1 → b ≡ b1 → c ≡ c1 → d ≡ d1 → e ≡ e1 → (f ≡ true → f1 ≡ true) → (g ≡ true → g1 ≡ true) → verdict a b c d e f g ≡ None → verdict a1 b1 c1 d1 e1 f1 g1 ≡ None
faultless true b c d e f g a1 b1 c1 d1 e1 f1 g1 ea eb ec ed ee p q none = let no : ⊥ = cc in absurd no
faultless false true c d e f g a1 b1 c1 d1 e1 f1 g1 ea eb ec ed ee p q none = let no : ⊥ = cc in absurd no
faultless false false false d e f g a1 b1 c1 d1 e1 f1 g1 ea eb ec ed ee p q none = let no : ⊥ = cc in absurd no
faultless false false true false e f g a1 b1 c1 d1 e1 f1 g1 ea eb ec ed ee p q none = let no : ⊥ = cc in absurd no
faultless false false true true false f g a1 b1 c1 d1 e1 f1 g1 ea eb ec ed ee p q none = let no : ⊥ = cc in absurd no
faultless false false true true true false g a1 b1 c1 d1 e1 f1 g1 ea eb ec ed ee p q none = let no : ⊥ = cc in absurd no
faultless false false true true true true false a1 b1 c1 d1 e1 f1 g1 ea eb ec ed ee p q none = let no : ⊥ = cc in absurd no
faultless false false true true true true true a1 b1 c1 d1 e1 f1 g1 ea eb ec ed ee p q none =
    rw (← ea, ← eb, ← ec, ← ed, ← ee, p refl, q refl) refl

-- the last two tests passed
pub last_two : (a b c d e f g : Bool) → verdict a b c d e f g ≡ None → (f ≡ true) × (g ≡ true)
last_two true b c d e f g none = let no : ⊥ = cc in absurd no
last_two false true c d e f g none = let no : ⊥ = cc in absurd no
last_two false false false d e f g none = let no : ⊥ = cc in absurd no
last_two false false true false e f g none = let no : ⊥ = cc in absurd no
last_two false false true true false f g none = let no : ⊥ = cc in absurd no
last_two false false true true true false g none = let no : ⊥ = cc in absurd no
last_two false false true true true true false none = let no : ⊥ = cc in absurd no
last_two false false true true true true true none = (refl, refl)

short_rows : (n : ℕ) (ds : List Data) → list_all (is_short n) ds ≡ list_all (λ m. nat_le (length m) n) (map row_of ds)
short_rows n [] = refl
short_rows n (d ∷ ds) =
    ap (λ (k : ℕ). nat_le k n && list_all (is_short n) ds) (sym (length-map (elements d) word_of))
    ∙ ap (λ b. nat_le (length (row_of d)) n && b) (short_rows n ds)

short_none : (n : ℕ) (ms : List (List ℕ)) → true ≡ list_all (λ m. nat_le (length m) n) (args_of None ms)
short_none n [] = refl
short_none n (m ∷ ms) =
    let empty : nat_le 0 n ≡ true = grind (arith, nat_tests) in
    rw empty (short_none n ms)

short_args : (n : ℕ) (o : Option Data) (ms : List (List ℕ)) → list_all (is_short n) (elements_in o) ≡ list_all (λ m. nat_le (length m) n) (args_of o ms)
short_args n None ms = short_none n ms
short_args n (Some d) ms = short_rows n (elements d)

length-args : (o : Option Data) (ms : List (List ℕ)) → length (args_of o ms) ≡ count_of_args o (length ms)
length-args None ms = length-map ms (λ m. [])
length-args (Some d) ms = length-map (elements d) row_of

between : (low high : ℕ) (z : Option ℤ) → is_between low high z ≡ true → (nat_le low (natural_of z) && nat_le (natural_of z) high) ≡ true
between low high None h = let no : ⊥ = cc in absurd no
between low high (Some (pos n)) h = h
between low high (Some (negsuc n)) h = let no : ⊥ = cc in absurd no

price : (z : Option ℤ) → is_between 0 highest_price z ≡ true → nat_le (natural_of z) highest_price ≡ true
price z h = (and_parts (nat_le 0 (natural_of z)) (nat_le (natural_of z) highest_price) (between 0 highest_price z h)).1

prices : (g l : Option ℤ) → (is_between 0 highest_price g && is_between 0 highest_price l) ≡ true → (nat_le (natural_of g) highest_price && nat_le (natural_of l) highest_price) ≡ true
prices g l h =
    let both = and_parts (is_between 0 highest_price g) (is_between 0 highest_price l) h in
    rw (price g both.0) (price l both.1)

pub lawful_described : (t : Members) → described_fault t ≡ None → input_fault (input_of t) ≡ None
lawful_described t none =
    let ds = elements_at (codes "memory") t in
    let ms = map row_of ds in
    let o = get_member (codes "args") t in
    let many : length ds ≡ length ms = sym (length-map ds row_of) in
    faultless _ _ _ _ _ _ _ _ _ _ _ _ _ _ (ap (λ (n : ℕ). n == 0) many) (ap (λ (n : ℕ). nat_lt most_processes n) many)
    (ap (λ (n : ℕ). count_of_args o n == n) many ∙ ap (λ (n : ℕ). n == length ms) (sym (length-args o ms)))
    (short_rows most_memory_words ds) (short_args most_arguments o ms) (between 1 most_supersteps (integer_at (codes "limit") t))
    (prices (integer_at (codes "g") t) (integer_at (codes "l") t)) none
