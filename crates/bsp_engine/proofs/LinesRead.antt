-- The lines of a result are read back, kind by kind.
use Rattle.std.proofs.Common.{◌≡◌, ◌<◌, ◌≤◌, ◌+◌, ◌==◌, ◌||◌, ◌^◌, cond, ℕ, List, [], ◌∷◌, ◌++◌, codes, Option, None, Some, refl, sym, ap, ◌∙◌, subst, arith, append_assoc, append-nil}
use Rattle.std.specs.Prelude.{⊤}
use Rattle.std.specs.List.{AllZip, flat_map}
use Rattle.std.proofs.lemmas.Fmt.{decimal_injective}
use Rattle.bsp_model.specs.declared.cost.CostRow.{CostRow}
use Rattle.bsp_model.specs.declared.fault.Fault.{Fault}
use Rattle.bsp_model.specs.declared.fault.Fault.TheVariants.{Abort, BadPid, NotRegistered, OutOfArea, BadLocal, TagLength, EmptyQueue, TooManyRequests, WorkLimit, LineLimit, TooLong, BadTagSize}
use Rattle.bsp_model.specs.declared.fault.SyncFault.{SyncFault}
use Rattle.bsp_model.specs.declared.fault.SyncFault.TheVariants.{MixedEnd, TagMismatch, PopMismatch, PushMismatch, TooManySlots}
use Rattle.bsp_run.specs.declared.result.ProcessFault.{ProcessFault}
use Rattle.bsp_run.specs.declared.result.Status.{Status}
use Rattle.bsp_run.specs.declared.result.Status.TheVariants.{Halted, Limit, Faulted, SyncFaulted}
use Rattle.bsp_engine.specs.Changes.{other_lines, piece_if}
use Rattle.bsp_text.specs.Lines.{field, fields, line, numbered}
use Rattle.bsp_text.specs.FaultWords.{fault_numbers, fault_word}
use Rattle.bsp_engine.specs.Text.{cost_line, memory_line, print_lines, process_fault_line, status_lines, sync_fault_word}
use Rattle.bsp_engine.proofs.LineEnds.{AreFrom, AreFrom-append, AreFrom-test, fields_from, same_fields, same_line, same_numbers}
use Rattle.bsp_engine.proofs.ItemsRead.{AreRead, IsPast}

line_alike : (word : List ℕ) (n : ℕ) (ns ms : List ℕ) → fields ns ≡ fields ms → line word (n ∷ ns) ≡ line word (n ∷ ms)
line_alike word n ns ms e = ap (λ t. (word ++ (field n ++ t)) ++ 10 ∷ []) e

-- lines of which each has the number of an item, and numbers of it
pub lines_read : {A : Type 0} (word : List ℕ) (numbers : A → List ℕ) → AreFrom 11 word → AreRead (λ n x. line word (n ∷ numbers x)) (λ x y. fields (numbers x) ≡ fields (numbers y))
lines_read word numbers f =
    record {
      number = λ n m x y later others l k e.
          decimal_injective n m l k (same_numbers n m (numbers x) (numbers y) (same_fields word (n ∷ numbers x) (m ∷ numbers y) later others f e).0).0;
      item = λ n x y later others p q e.
          let cut = same_fields word (n ∷ numbers x) (n ∷ numbers y) later others f e in
          ((same_numbers n n (numbers x) (numbers y) cut.0).1, cut.1);
    }

pub memories_read : AreRead memory_line (λ ws vs. fields ws ≡ fields vs)
memories_read = lines_read (codes "memory") (λ ws. ws) (AreFrom-test 11 (codes "memory") refl)

abbrev pub numbers_in : CostRow → List ℕ
numbers_in row = row.work ∷ row.h ∷ row.cost ∷ []

pub costs_read : AreRead cost_line (λ a b. fields (numbers_in a) ≡ fields (numbers_in b))
costs_read = lines_read (codes "cost") numbers_in (AreFrom-test 11 (codes "cost") refl)

-- printed lines that are alike
abbrev pub AlikeLines : List (List ℕ) → List (List ℕ) → Type 0
AlikeLines ls ks = (n : ℕ) → print_lines n ls ≡ print_lines n ks

print_from : AreFrom 11 (codes "print")
print_from = AreFrom-test 11 (codes "print") refl

-- the first of a process's lines, and those behind it
first_line : (n m : ℕ) (w v : List ℕ) (ws vs : List (List ℕ)) (later others : List ℕ) → print_lines n (w ∷ ws) ++ later ≡ print_lines m (v ∷ vs) ++ others
    → (fields (n ∷ w) ≡ fields (m ∷ v)) × (print_lines n ws ++ later ≡ print_lines m vs ++ others)
first_line n m w v ws vs later others e =
    same_fields (codes "print") (n ∷ w) (m ∷ v) (print_lines n ws ++ later) (print_lines m vs ++ others) print_from
    (sym (append_assoc (line (codes "print") (n ∷ w)) (print_lines n ws) later) ∙ e ∙ append_assoc (line (codes "print") (m ∷ v)) (print_lines m vs) others)

printed_read : (ws vs : List (List ℕ)) (n : ℕ) (later others : List ℕ) → IsPast other_lines n later → IsPast other_lines n others → print_lines n ws ++ later ≡ print_lines n vs ++ others → AlikeLines ws vs × (later ≡ others)
printed_read [] [] n later others p q e = (λ k. refl, e)
printed_read [] (v ∷ vs) n later others p q e = absurd (p (v ∷ vs) others e)
printed_read (w ∷ ws) [] n later others p q e = absurd (q (w ∷ ws) later (sym e))
printed_read (w ∷ ws) (v ∷ vs) n later others p q e =
    let cut = first_line n n w v ws vs later others e in
    let more = printed_read ws vs n later others p q cut.1 in
    let same = (same_numbers n n w v cut.0).1 in
    (λ k. λ i. line_alike (codes "print") k w v same i ++ more.0 k i, more.1)

-- no line is both `silent ..` and `print ..`
silent_not_printed : (n m : ℕ) (w : List ℕ) (ws : List (List ℕ)) (later others : List ℕ) → line (codes "silent") (n ∷ []) ++ later ≡ print_lines m (w ∷ ws) ++ others → ⊥
silent_not_printed n m w ws later others e = let a : ℕ = 115 in let b : ℕ = 112 in let heads : a ≡ b = cc in omega arith

number_read : (n m : ℕ) (x y : List (List ℕ)) (later others : List ℕ) → n < 2 ^ 64 → m < 2 ^ 64 → other_lines n x ++ later ≡ other_lines m y ++ others → n ≡ m
number_read n m [] [] later others l k e =
    decimal_injective n m l k (same_numbers n m [] [] (same_fields (codes "silent") (n ∷ []) (m ∷ []) later others (AreFrom-test 11 (codes "silent") refl) e).0).0
number_read n m [] (v ∷ vs) later others l k e = absurd (silent_not_printed n m v vs later others e)
number_read n m (w ∷ ws) [] later others l k e = absurd (silent_not_printed m n w ws others later (sym e))
number_read n m (w ∷ ws) (v ∷ vs) later others l k e = decimal_injective n m l k (same_numbers n m w v (first_line n m w v ws vs later others e).0).0

process_read : (n : ℕ) (x y : List (List ℕ)) (later others : List ℕ) → IsPast other_lines n later → IsPast other_lines n others → other_lines n x ++ later ≡ other_lines n y ++ others → AlikeLines x y × (later ≡ others)
process_read n [] [] later others p q e = (λ k. refl, (same_fields (codes "silent") (n ∷ []) (n ∷ []) later others (AreFrom-test 11 (codes "silent") refl) e).1)
process_read n [] (v ∷ vs) later others p q e = absurd (silent_not_printed n n v vs later others e)
process_read n (w ∷ ws) [] later others p q e = absurd (silent_not_printed n n w ws others later (sym e))
process_read n (w ∷ ws) (v ∷ vs) later others p q e = printed_read (w ∷ ws) (v ∷ vs) n later others p q e

pub printing_read : AreRead other_lines AlikeLines
printing_read = record { number = number_read; item = process_read }

-- texts of items that are alike
pub numbered_alike : {A : Type 0} (piece : ℕ → A → List ℕ) (Alike : A → A → Type 0) → ((n : ℕ) (x y : A) → Alike x y → piece n x ≡ piece n y) → (xs ys : List A) (n : ℕ) → AllZip Alike xs ys → numbered piece n xs ≡ numbered piece n ys
numbered_alike piece Alike shows [] [] n a = refl
numbered_alike piece Alike shows [] (y ∷ ys) n a = absurd a
numbered_alike piece Alike shows (x ∷ xs) [] n a = absurd a
numbered_alike piece Alike shows (x ∷ xs) (y ∷ ys) n a = λ i. shows n x y a.0 i ++ numbered_alike piece Alike shows xs ys (n + 1) a.1 i

pub memories_shown : (xs ys : List (List ℕ)) → AllZip (λ ws vs. fields ws ≡ fields vs) xs ys → numbered memory_line 0 xs ≡ numbered memory_line 0 ys
memories_shown xs ys a = numbered_alike memory_line _ (λ n x y e. line_alike (codes "memory") n x y e) xs ys 0 a

pub costs_shown : (xs ys : List CostRow) → AllZip (λ a b. fields (numbers_in a) ≡ fields (numbers_in b)) xs ys → numbered cost_line 0 xs ≡ numbered cost_line 0 ys
costs_shown xs ys a = numbered_alike cost_line _ (λ n x y e. line_alike (codes "cost") n (numbers_in x) (numbers_in y) e) xs ys 0 a

pub printing_shown : (xs ys : List (List (List ℕ))) → AllZip AlikeLines xs ys → numbered print_lines 0 xs ≡ numbered print_lines 0 ys
printing_shown xs ys a = numbered_alike print_lines AlikeLines (λ n x y e. e n) xs ys 0 a

-- ---- where the lines of the status end

-- which lines begin with this letter: `fault`, `memory`, `print` and `silent`, `cost`, `costs` and `total`, in this order
abbrev pub rank : ℕ → ℕ
rank c = cond (c == 102) 0 (cond (c == 109) 1 (cond ((c == 112) || (c == 115)) 2 3))

abbrev pub HeadFrom : ℕ → List ℕ → Type 0
HeadFrom least [] = ⊤
HeadFrom least (c ∷ cs) = least ≤ rank c

pub HeadFrom-section : {A : Type 0} (piece : ℕ → A → List ℕ) (least : ℕ) → ((n : ℕ) (x : A) (later : List ℕ) → HeadFrom least (piece n x ++ later)) → (c : List (Option A)) (n : ℕ) (rest : List ℕ) → HeadFrom least rest → HeadFrom least (numbered (piece_if piece) n c ++ rest)
HeadFrom-section piece least begins [] n rest h = h
HeadFrom-section piece least begins (None ∷ c) n rest h = HeadFrom-section piece least begins c (n + 1) rest h
HeadFrom-section piece least begins (Some x ∷ c) n rest h =
    subst (HeadFrom least) (sym (append_assoc (piece n x) (numbered (piece_if piece) (n + 1) c) rest)) (begins n x (numbered (piece_if piece) (n + 1) c ++ rest))

-- a line of a fault, without its end
abbrev fault_row : ProcessFault → List ℕ
fault_row f = codes "fault" ++ field f.pid ++ codes " " ++ (fault_word f.fault ++ fields (fault_numbers f.fault))

fault_line-row : (f : ProcessFault) → process_fault_line f ≡ fault_row f ++ 10 ∷ []
fault_line-row f = sym (append_assoc (codes "fault" ++ field f.pid ++ codes " ") (fault_word f.fault ++ fields (fault_numbers f.fault)) (10 ∷ []))

fault_word_from : (f : Fault) → AreFrom 11 (fault_word f)
fault_word_from (Abort code) = AreFrom-test 11 (codes "F1") refl
fault_word_from (BadPid pid) = AreFrom-test 11 (codes "F2") refl
fault_word_from (NotRegistered start) = AreFrom-test 11 (codes "F3") refl
fault_word_from OutOfArea = AreFrom-test 11 (codes "F4") refl
fault_word_from BadLocal = AreFrom-test 11 (codes "F5") refl
fault_word_from TagLength = AreFrom-test 11 (codes "F6") refl
fault_word_from EmptyQueue = AreFrom-test 11 (codes "F7") refl
fault_word_from TooManyRequests = AreFrom-test 11 (codes "F8") refl
fault_word_from WorkLimit = AreFrom-test 11 (codes "F9") refl
fault_word_from LineLimit = AreFrom-test 11 (codes "F10") refl
fault_word_from TooLong = AreFrom-test 11 (codes "F11") refl
fault_word_from BadTagSize = AreFrom-test 11 (codes "F12") refl

-- a number between a word and a space
numbered_from : (word : List ℕ) (n : ℕ) (behind : List ℕ) → AreFrom 11 word → AreFrom 11 behind → AreFrom 11 (word ++ field n ++ codes " " ++ behind)
numbered_from word n behind f g =
    let shape : word ++ fields (n ∷ []) ++ codes " " ++ behind ≡ word ++ field n ++ codes " " ++ behind = ap (λ t. word ++ t ++ codes " " ++ behind) (append-nil (field n)) in
    subst (AreFrom 11) shape
    (AreFrom-append 11 (word ++ fields (n ∷ []) ++ codes " ") behind (AreFrom-append 11 (word ++ fields (n ∷ [])) (codes " ") (AreFrom-append 11 word (fields (n ∷ [])) f (fields_from (n ∷ []))) (AreFrom-test 11 (codes " ") refl)) g)

fault_row_from : (f : ProcessFault) → AreFrom 11 (fault_row f)
fault_row_from f =
    numbered_from (codes "fault") f.pid (fault_word f.fault ++ fields (fault_numbers f.fault)) (AreFrom-test 11 (codes "fault") refl)
    (AreFrom-append 11 (fault_word f.fault) (fields (fault_numbers f.fault)) (fault_word_from f.fault) (fields_from (fault_numbers f.fault)))

abbrev fault_text : List ProcessFault → List ℕ
fault_text fs = flat_map process_fault_line fs

fault_parts : (f : ProcessFault) (fs : List ProcessFault) (rest : List ℕ) → fault_text (f ∷ fs) ++ rest ≡ (fault_row f ++ 10 ∷ []) ++ (fault_text fs ++ rest)
fault_parts f fs rest = append_assoc (process_fault_line f) (fault_text fs) rest ∙ ap (λ t. t ++ (fault_text fs ++ rest)) (fault_line-row f)

no_fault : (f : ProcessFault) (fs : List ProcessFault) (rest others : List ℕ) → HeadFrom 1 rest → rest ≡ fault_text (f ∷ fs) ++ others → ⊥
no_fault f fs rest others h e = let low : 1 ≤ 0 = subst (HeadFrom 1) (e ∙ fault_parts f fs others) h in omega arith

faults_read : (fs gs : List ProcessFault) (rest others : List ℕ) → HeadFrom 1 rest → HeadFrom 1 others → fault_text fs ++ rest ≡ fault_text gs ++ others → (fault_text fs ≡ fault_text gs) × (rest ≡ others)
faults_read [] [] rest others h k e = (refl, e)
faults_read [] (g ∷ gs) rest others h k e = absurd (no_fault g gs rest others h e)
faults_read (f ∷ fs) [] rest others h k e = absurd (no_fault f fs others rest k (sym e))
faults_read (f ∷ fs) (g ∷ gs) rest others h k e =
    let cut = same_line (fault_row f) (fault_row g) (fault_text fs ++ rest) (fault_text gs ++ others) (fault_row_from f) (fault_row_from g) (sym (fault_parts f fs rest) ∙ e ∙ fault_parts g gs others) in
    let more = faults_read fs gs rest others h k cut.1 in
    let here : process_fault_line f ≡ process_fault_line g = fault_line-row f ∙ ap (λ t. t ++ 10 ∷ []) cut.0 ∙ sym (fault_line-row g) in
    (λ i. here i ++ more.0 i, more.1)

-- the first line of a status without its end, and the faults below it
abbrev first_row : Status → List ℕ
first_row Halted = codes "status halted"
first_row Limit = codes "status limit"
first_row (Faulted step faults) = codes "status faulted" ++ fields (step ∷ [])
first_row (SyncFaulted step fault) = codes "status syncfault" ++ field step ++ codes " " ++ (sync_fault_word fault ++ fields [])

abbrev faults_in : Status → List ProcessFault
faults_in Halted = []
faults_in Limit = []
faults_in (Faulted step faults) = faults
faults_in (SyncFaulted step fault) = []

status_parts : (s : Status) → status_lines s ≡ (first_row s ++ 10 ∷ []) ++ fault_text (faults_in s)
status_parts Halted = refl
status_parts Limit = refl
status_parts (Faulted step faults) = refl
status_parts (SyncFaulted step fault) =
    sym (append_assoc (codes "status syncfault" ++ field step ++ codes " ") (sync_fault_word fault ++ fields []) (10 ∷ [])) ∙ sym (append-nil (first_row (SyncFaulted step fault) ++ 10 ∷ []))

sync_fault_word_from : (f : SyncFault) → AreFrom 11 (sync_fault_word f)
sync_fault_word_from MixedEnd = AreFrom-test 11 (codes "S1") refl
sync_fault_word_from TagMismatch = AreFrom-test 11 (codes "S2") refl
sync_fault_word_from PopMismatch = AreFrom-test 11 (codes "S3") refl
sync_fault_word_from PushMismatch = AreFrom-test 11 (codes "S4") refl
sync_fault_word_from TooManySlots = AreFrom-test 11 (codes "S5") refl

first_row_from : (s : Status) → AreFrom 11 (first_row s)
first_row_from Halted = AreFrom-test 11 (codes "status halted") refl
first_row_from Limit = AreFrom-test 11 (codes "status limit") refl
first_row_from (Faulted step faults) = AreFrom-append 11 (codes "status faulted") (fields (step ∷ [])) (AreFrom-test 11 (codes "status faulted") refl) (fields_from (step ∷ []))
first_row_from (SyncFaulted step fault) =
    numbered_from (codes "status syncfault") step (sync_fault_word fault ++ fields []) (AreFrom-test 11 (codes "status syncfault") refl)
    (AreFrom-append 11 (sync_fault_word fault) (fields []) (sync_fault_word_from fault) tt)

pub status_read : (s t : Status) (rest others : List ℕ) → HeadFrom 1 rest → HeadFrom 1 others → status_lines s ++ rest ≡ status_lines t ++ others → (status_lines s ≡ status_lines t) × (rest ≡ others)
status_read s t rest others h k e =
    let parts : (u : Status) (r : List ℕ) → status_lines u ++ r ≡ (first_row u ++ 10 ∷ []) ++ (fault_text (faults_in u) ++ r) =
    λ u r. ap (λ l. l ++ r) (status_parts u) ∙ append_assoc (first_row u ++ 10 ∷ []) (fault_text (faults_in u)) r in
    let cut = same_line (first_row s) (first_row t) (fault_text (faults_in s) ++ rest) (fault_text (faults_in t) ++ others) (first_row_from s) (first_row_from t) (sym (parts s rest) ∙ e ∙ parts t others) in
    let more = faults_read (faults_in s) (faults_in t) rest others h k cut.1 in
    (status_parts s ∙ (λ i. (cut.0 i ++ 10 ∷ []) ++ more.0 i) ∙ sym (status_parts t), more.1)
