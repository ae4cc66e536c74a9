-- Edits that are accepted keep an input lawful.
use Rattle.std.proofs.Common.{◌≡◌, ◌+◌, ℕ, Bool, true, false, cond, Option, None, Some, List, [], ◌∷◌, map, length, get_or, ◌==◌, ◌&&◌, not, refl, sym, ap, ◌∙◌}
use Rattle.std.specs.Prelude.{slice_set, nat_le, nat_lt}
use Rattle.std.specs.List.{list_all}
use Rattle.std.proofs.Math.ListN.{length-set}
use Rattle.std.proofs.Math.Seq.{map-set_same}
use Rattle.std.proofs.lemmas.List.{length-map}
use Rattle.std.proofs.lemmas.List.Folds.{list_all-map}
use Rattle.bsp_model.specs.Limits.{highest_price, most_arguments, most_memory_words, most_processes, most_supersteps}
use Rattle.bsp_model.specs.declared.input.Input.{Input}
use Rattle.bsp_model.specs.declared.fault.InputFault.{InputFault}
use Rattle.bsp_model.specs.declared.fault.InputFault.TheVariants.{NoProcess, TooMany, LengthsDiffer, MemoryTooLong, ArgsTooLong, BadLimit, BadPrice}
use Rattle.bsp_model.specs.Input.{input_fault}
use Rattle.bsp_incr.specs.declared.edit.Edit.{Edit}
use Rattle.bsp_incr.specs.declared.edit.Edit.TheVariants.{Word, Arg, Limit, Prices}
use Rattle.bsp_incr.specs.declared.edit.EditFault.{EditFault}
use Rattle.bsp_incr.specs.declared.edit.EditFault.TheVariants as why
use Rattle.bsp_incr.specs.Edits.{edit_fault, refusal_from, refusal_of, with_number, edited_by, edited}
use Rattle.bsp_incr.proofs.EditSequences.{none_both}

set_own : (lists : List (List ℕ)) (p a value : ℕ) → map (λ (m : List ℕ). length m) (with_number lists p a value) ≡ map (λ (m : List ℕ). length m) lists
set_own lists p a value = map-set_same (λ (m : List ℕ). length m) lists p (slice_set (get_or lists p []) a value) [] (length-set (get_or lists p []) a value)

all_same : (bound : ℕ) (xs ys : List (List ℕ)) → map (λ (m : List ℕ). length m) xs ≡ map (λ (m : List ℕ). length m) ys → list_all (λ m. nat_le (length m) bound) xs ≡ list_all (λ m. nat_le (length m) bound) ys
all_same bound xs ys e =
    sym (list_all-map (λ n. nat_le n bound) (λ (m : List ℕ). length m) xs) ∙ ap (list_all (λ n. nat_le n bound)) e ∙ list_all-map (λ n. nat_le n bound) (λ (m : List ℕ). length m) ys

abbrev chain : (a b c d e x y : Bool) → Option InputFault
chain a b c d e x y = cond a (Some NoProcess) (cond b (Some TooMany) (cond c (Some LengthsDiffer) (cond d (Some MemoryTooLong) (cond e (Some ArgsTooLong) (cond x (Some BadLimit) (cond y (Some BadPrice) None))))))

-- where no test fails, the last two may be others that do not
last_tests : (a b c d e x y : Bool) → chain a b c d e x y ≡ None → ((u v : Bool) → u ≡ false → v ≡ false → chain a b c d e u v ≡ None) × (x ≡ false) × (y ≡ false)
last_tests true b c d e x y h = cc
last_tests false true c d e x y h = cc
last_tests false false true d e x y h = cc
last_tests false false false true e x y h = cc
last_tests false false false false true x y h = cc
last_tests false false false false false true y h = cc
last_tests false false false false false false true h = cc
last_tests false false false false false false false h = (λ u v k l. λ i. cond (k i) (Some BadLimit) (cond (l i) (Some BadPrice) None), refl, refl)

-- no edit of a word or an argument changes whether an input is lawful
mems_same : (i : Input) (mems : List (List ℕ)) → map (λ (m : List ℕ). length m) mems ≡ map (λ (m : List ℕ). length m) i.mems → input_fault (record i { mems = mems }) ≡ input_fault i
mems_same i mems e =
    let count : length mems ≡ length i.mems = sym (length-map mems (λ (m : List ℕ). length m)) ∙ ap (λ (ns : List ℕ). length ns) e ∙ length-map i.mems (λ (m : List ℕ). length m) in
    let short = all_same most_memory_words mems i.mems e in
    let rest : Bool → Option InputFault = λ d. chain false false false d (not (list_all (λ (a : List ℕ). nat_le (length a) most_arguments) i.args)) (not (nat_le 1 i.limit && nat_le i.limit most_supersteps)) (not (nat_le i.g highest_price && nat_le i.l highest_price)) in
    ap (λ n. cond (n == 0) (Some NoProcess) (cond (nat_lt most_processes n) (Some TooMany) (cond (not (length i.args == n)) (Some LengthsDiffer) (rest (not (list_all (λ (m : List ℕ). nat_le (length m) most_memory_words) mems)))))) count
    ∙ ap (λ b. cond (length i.mems == 0) (Some NoProcess) (cond (nat_lt most_processes (length i.mems)) (Some TooMany) (cond (not (length i.args == length i.mems)) (Some LengthsDiffer) (rest (not b))))) short

args_same : (i : Input) (args : List (List ℕ)) → map (λ (a : List ℕ). length a) args ≡ map (λ (a : List ℕ). length a) i.args → input_fault (record i { args = args }) ≡ input_fault i
args_same i args e =
    let count : length args ≡ length i.args = sym (length-map args (λ (m : List ℕ). length m)) ∙ ap (λ (ns : List ℕ). length ns) e ∙ length-map i.args (λ (m : List ℕ). length m) in
    let short = all_same most_arguments args i.args e in
    let rest : Bool → Option InputFault = λ x. chain false false false (not (list_all (λ (m : List ℕ). nat_le (length m) most_memory_words) i.mems)) (not x) (not (nat_le 1 i.limit && nat_le i.limit most_supersteps)) (not (nat_le i.g highest_price && nat_le i.l highest_price)) in
    ap (λ n. cond (length i.mems == 0) (Some NoProcess) (cond (nat_lt most_processes (length i.mems)) (Some TooMany) (cond (not (n == length i.mems)) (Some LengthsDiffer) (rest (list_all (λ (a : List ℕ). nat_le (length a) most_arguments) args))))) count
    ∙ ap (λ b. cond (length i.mems == 0) (Some NoProcess) (cond (nat_lt most_processes (length i.mems)) (Some TooMany) (cond (not (length i.args == length i.mems)) (Some LengthsDiffer) (rest b)))) short

accepted : (b : Bool) (f : EditFault) → cond (not b) (Some f) None ≡ None → not b ≡ false
accepted true f h = refl
accepted false f h = cc

edit_lawful : (i j : Input) (e : Edit) → edit_fault i e ≡ None → input_fault j ≡ None → input_fault (edited_by j e) ≡ None
edit_lawful i j (Word pid addr value) h k = mems_same j (with_number j.mems pid addr value) (set_own j.mems pid addr value) ∙ k
edit_lawful i j (Arg pid index value) h k = args_same j (with_number j.args pid index value) (set_own j.args pid index value) ∙ k
edit_lawful i j (Limit n) h k =
    let a = length j.mems == 0 in let b = nat_lt most_processes (length j.mems) in let c = not (length j.args == length j.mems) in
    let d = not (list_all (λ (m : List ℕ). nat_le (length m) most_memory_words) j.mems) in let e = not (list_all (λ (a : List ℕ). nat_le (length a) most_arguments) j.args) in
    let x = not (nat_le 1 j.limit && nat_le j.limit most_supersteps) in let y = not (nat_le j.g highest_price && nat_le j.l highest_price) in
    let rest = last_tests a b c d e x y k in rest.0 (not (nat_le 1 n && nat_le n most_supersteps)) y (accepted (nat_le 1 n && nat_le n most_supersteps) why.BadLimit h) rest.2
edit_lawful i j (Prices g l) h k =
    let a = length j.mems == 0 in let b = nat_lt most_processes (length j.mems) in let c = not (length j.args == length j.mems) in
    let d = not (list_all (λ (m : List ℕ). nat_le (length m) most_memory_words) j.mems) in let e = not (list_all (λ (a : List ℕ). nat_le (length a) most_arguments) j.args) in
    let x = not (nat_le 1 j.limit && nat_le j.limit most_supersteps) in let y = not (nat_le j.g highest_price && nat_le j.l highest_price) in
    let rest = last_tests a b c d e x y k in rest.0 x (not (nat_le g highest_price && nat_le l highest_price)) rest.1 (accepted (nat_le g highest_price && nat_le l highest_price) why.BadPrice h)

all_lawful : (i j : Input) (place : ℕ) (edits : List Edit) → refusal_from i place edits ≡ None → input_fault j ≡ None → input_fault (edited j edits) ≡ None
all_lawful i j place [] h k = k
all_lawful i j place (e ∷ later) h k =
    let both = none_both place (edit_fault i e) (refusal_from i (place + 1) later) h in
    all_lawful i (edited_by j e) (place + 1) later both.1 (edit_lawful i j e both.0 k)

-- An accepted batch keeps an input lawful ..
pub edited_lawful : (i : Input) (edits : List Edit) → refusal_of i edits ≡ None → input_fault i ≡ None → input_fault (edited i edits) ≡ None
edited_lawful i edits h k = all_lawful i i 0 edits h k

abbrev lengths : List (List ℕ) → List ℕ
lengths lists = map (λ (m : List ℕ). length m) lists

edit_lengths : (i : Input) (e : Edit) → (lengths (edited_by i e).mems ≡ lengths i.mems) × (lengths (edited_by i e).args ≡ lengths i.args)
edit_lengths i (Word pid addr value) = (set_own i.mems pid addr value, refl)
edit_lengths i (Arg pid index value) = (refl, set_own i.args pid index value)
edit_lengths i (Limit n) = (refl, refl)
edit_lengths i (Prices g l) = (refl, refl)

-- .. and any batch each length.
pub same_lengths : (i : Input) (edits : List Edit) → (lengths (edited i edits).mems ≡ lengths i.mems) × (lengths (edited i edits).args ≡ lengths i.args)
same_lengths i [] = (refl, refl)
same_lengths i (e ∷ later) =
    let rest = same_lengths (edited_by i e) later in
    let first = edit_lengths i e in
    (rest.0 ∙ first.0, rest.1 ∙ first.1)

as_many : (xs ys : List (List ℕ)) → lengths xs ≡ lengths ys → length xs ≡ length ys
as_many xs ys same = sym (length-map xs (λ (m : List ℕ). length m)) ∙ ap (λ (ns : List ℕ). length ns) same ∙ length-map ys (λ (m : List ℕ). length m)

pub edited_count : (i : Input) (edits : List Edit) → length (edited i edits).mems ≡ length i.mems
edited_count i edits = as_many (edited i edits).mems i.mems (same_lengths i edits).0

pub edited_count-args : (i : Input) (edits : List Edit) → length (edited i edits).args ≡ length i.args
edited_count-args i edits = as_many (edited i edits).args i.args (same_lengths i edits).1
