-- How a superstep ends whose outcomes are described process by process, and the table after it.
use Rattle.std.proofs.Common.{◌&&◌, ◌+◌, ◌++◌, ◌<◌, ◌==◌, Bool, List, None, Option, Some, [], ap, arith, cond, false, filter, get_or, length, map, nat_lt, not, refl, suc, sym, true, zero, ℕ, ◌∙◌, ◌∷◌, ◌≡◌, ◌≤◌}
use Rattle.std.proofs.lemmas.List.FromFn.{fill_by_all}
use Rattle.std.specs.Prelude.{is_some, nat_eq}
use Rattle.std.specs.List.{list_all, list_any, range_with_len}
use Rattle.std.proofs.lemmas.Bool.Decides.{nat_tests}
use lib.Pointwise.{pointwise}
use Rattle.bsp_model.specs.Limits.{most_slots}
use Rattle.bsp_model.specs.declared.fault.SyncFault.TheVariants.{MixedEnd, PopMismatch, PushMismatch, TagMismatch, TooManySlots}
use Rattle.bsp_model.specs.declared.fault.SyncFault.{SyncFault}
use Rattle.bsp_table.specs.declared.area.Area.{Area}
use Rattle.bsp_table.specs.NextTable.{are_alike, count_of_pushes, is_popped, kept_slots, next_table, no_area, pushed_slot, table_fault}
use Rattle.bsp_table.proofs.NextTables.{same_itself}
use Rattle.bsp_step.specs.declared.outcome.Ended.TheVariants.{Halt, Sync}
use Rattle.bsp_step.specs.OutcomeParts.{OutcomeParts}
use Rattle.bsp_deliver.specs.Requests.{each_below}
use Rattle.bsp_deliver.specs.SyncFault.{is_sync, same_tag, sync_fault}
use Rattle.bsp_run.specs.declared.result.Status.TheVariants.{Faulted, Halted}
use Rattle.bsp_run.specs.Ending.{end_of, end_without_fault, faults_from}
use Rattle.bsp_run.specs.State.{pops_of, pushes_of}
use Rattle.bsp_right.proofs.Ranges.{all_range, any_range-first, any_range-none, map_range-agree, map_range-const, range-agree}

-- processes that pop the same slots, push so many areas, each its own, choose the same tag size, or none, and go on to the next superstep
pub record AllSyncWith (nprocs : ℕ) (popped : List ℕ) (count : ℕ) (pushed : ℕ → List Area) (tag : Option ℕ) (out : ℕ → OutcomeParts) : Type 0 where
  pub some : 1 ≤ nprocs
  pub faultless : (p : ℕ) → p < nprocs → (out p).fault ≡ None
  pub syncs : (p : ℕ) → p < nprocs → (out p).ended ≡ Sync
  pub pops : (p : ℕ) → p < nprocs → (out p).pops ≡ popped
  pub counts : (p : ℕ) → p < nprocs → length (pushed p) ≡ count
  pub pushes : (p : ℕ) → p < nprocs → (out p).pushes ≡ pushed p
  pub tags : (p : ℕ) → p < nprocs → (out p).tag ≡ tag

-- such processes that pop nothing, push the same areas and choose none
pub record AllSync (nprocs : ℕ) (pushed : List Area) (out : ℕ → OutcomeParts) : Type 0 where
  pub some : 1 ≤ nprocs
  pub faultless : (p : ℕ) → p < nprocs → (out p).fault ≡ None
  pub syncs : (p : ℕ) → p < nprocs → (out p).ended ≡ Sync
  pub pops : (p : ℕ) → p < nprocs → (out p).pops ≡ []
  pub pushes : (p : ℕ) → p < nprocs → (out p).pushes ≡ pushed
  pub tags : (p : ℕ) → p < nprocs → (out p).tag ≡ None

pub AllSync-with : (n : ℕ) (pushed : List Area) (out : ℕ → OutcomeParts) → AllSync n pushed out → AllSyncWith n [] (length pushed) (λ p. pushed) None out
AllSync-with n pushed out h =
    record {
      some = h.some;
      faultless = h.faultless;
      syncs = h.syncs;
      pops = h.pops;
      counts = λ p _. refl;
      pushes = h.pushes;
      tags = h.tags;
    }

-- the slots of the areas that they push
abbrev pub slots_pushed : ℕ → ℕ → (ℕ → List Area) → List (List Area)
slots_pushed n count pushed = map (λ k. map (λ p. get_or (pushed p) k no_area) (range_with_len 0 n)) (range_with_len 0 count)

-- the slots that are left where all pop these
abbrev pub slots_left : List (List Area) → List ℕ → List (List Area)
slots_left slots popped = kept_slots slots (popped ∷ [])

pub record AllHalt (nprocs : ℕ) (out : ℕ → OutcomeParts) : Type 0 where
  pub some : 1 ≤ nprocs
  pub faultless : (p : ℕ) → p < nprocs → (out p).fault ≡ None
  pub halts : (p : ℕ) → p < nprocs → (out p).ended ≡ Halt

no_fault : (n : ℕ) (out : ℕ → OutcomeParts) → ((p : ℕ) → p < n → (out p).fault ≡ None) → list_any (λ (o : OutcomeParts). is_some o.fault) (each_below n out) ≡ false
no_fault n out h = any_range-none (λ (o : OutcomeParts). is_some o.fault) out n 0 (λ p l m. ap is_some (h p (omega arith)))

-- the fault of a superstep's end from its tests
ending_by : Bool → Bool → Bool → Option SyncFault → Option SyncFault
ending_by syncs halts tags table = cond (syncs && halts) (Some MixedEnd) (cond (not syncs) None (cond (not tags) (Some TagMismatch) table))

-- Where all halt, the run has halted.
pub end_of-halts : (n step : ℕ) (slots : List (List Area)) (out : ℕ → OutcomeParts) → AllHalt n out → end_of step slots (each_below n out) ≡ Some Halted
unfolding end_of ending_by
end_of-halts n step slots out h =
    let os = each_below n out in
    let halted : list_any (λ (o : OutcomeParts). is_sync o.ended) os ≡ false = any_range-none (λ (o : OutcomeParts). is_sync o.ended) out n 0 (λ p l m. ap is_sync (h.halts p (omega arith))) in
    ap (λ b. cond b (Some (Faulted step (faults_from 0 os))) (end_without_fault step os (sync_fault os slots))) (no_fault n out h.faultless)
    ∙ ap (λ f. end_without_fault step os f) (ap (λ b. ending_by b (list_any (λ (o : OutcomeParts). not (is_sync o.ended)) os) (are_alike same_tag (map (λ (o : OutcomeParts). o.tag) os)) (table_fault slots (pops_of os) (pushes_of os))) halted)
    ∙ ap (λ b. cond b None (Some Halted)) halted

all_alike-const : {X : Type 0} (same : X → X → Bool) (x : X) (n a : ℕ) → same x x ≡ true → list_all (same x) (map (λ p. x) (range_with_len a n)) ≡ true
all_alike-const same x n a h = all_range (same x) (λ p. x) n a (λ p l m. h)

are_alike-const : {X : Type 0} (same : X → X → Bool) (x : X) (n a : ℕ) → same x x ≡ true → are_alike same (map (λ p. x) (range_with_len a n)) ≡ true
are_alike-const same x zero a h = refl
are_alike-const same x (suc n) a h = all_alike-const same x n (a + 1) h

same_tag-itself : (tag : Option ℕ) → same_tag tag tag ≡ true
same_tag-itself None = refl
same_tag-itself (Some n) = grind (arith, nat_tests)

-- what a table makes of processes that pop and push the same
popped_if : (b : Bool) (popped : List ℕ) (n a slot : ℕ) → 1 ≤ n → list_any (λ k. k == slot) popped ≡ b → is_popped (map (λ p. popped) (range_with_len a n)) slot ≡ is_popped (popped ∷ []) slot
popped_if true popped n a slot some e =
    any_range-first (λ (ks : List ℕ). list_any (λ k. k == slot) ks) (λ p. popped) n a some e ∙ sym (any_range-first (λ (ks : List ℕ). list_any (λ k. k == slot) ks) (λ p. popped) 1 0 (omega arith) e)
popped_if false popped n a slot some e =
    any_range-none (λ (ks : List ℕ). list_any (λ k. k == slot) ks) (λ p. popped) n a (λ p l m. e) ∙ sym (any_range-none (λ (ks : List ℕ). list_any (λ k. k == slot) ks) (λ p. popped) 1 0 (λ p l m. e))

filter-agree : {X : Type 0} (f g : X → Bool) → ((x : X) → f x ≡ g x) → (xs : List X) → filter f xs ≡ filter g xs
filter-agree f g e [] = refl
filter-agree f g e (x ∷ xs) = ap (λ b. cond b (x ∷ filter f xs) (filter f xs)) (e x) ∙ ap (λ ys. cond (g x) (x ∷ ys) ys) (filter-agree f g e xs)

kept_slots-alike : (slots : List (List Area)) (popped : List ℕ) (n : ℕ) → 1 ≤ n → kept_slots slots (map (λ p. popped) (range_with_len 0 n)) ≡ slots_left slots popped
kept_slots-alike slots popped n some =
    ap (map (λ slot. get_or slots slot [])) (filter-agree (λ slot. not (is_popped (map (λ p. popped) (range_with_len 0 n)) slot)) (λ slot. not (is_popped (popped ∷ []) slot)) (λ slot. ap not (popped_if (list_any (λ k. k == slot) popped) popped n 0 slot some refl)) (range_with_len 0 (length slots)))

popped_none : (n a slot : ℕ) → is_popped (map (λ p. []) (range_with_len a n)) slot ≡ false
popped_none n a slot = any_range-none (λ popped. list_any (λ k. k == slot) popped) (λ p. []) n a (λ p l m. refl)

kept_from : (n b count : ℕ) → filter (λ slot. not (is_popped (map (λ p. []) (range_with_len 0 n)) slot)) (range_with_len b count) ≡ range_with_len b count
kept_from n b zero = refl
kept_from n b (suc count) =
    let rest = filter (λ slot. not (is_popped (map (λ p. []) (range_with_len 0 n)) slot)) (range_with_len (b + 1) count) in
    ap (λ t. cond (not t) (b ∷ rest) rest) (popped_none n 0 b) ∙ ap (λ xs. b ∷ xs) (kept_from n (b + 1) count)

-- where none is popped, all are left
pub kept_slots-all : (slots : List (List Area)) (n : ℕ) → kept_slots slots (map (λ p. []) (range_with_len 0 n)) ≡ slots
kept_slots-all slots n =
    ap (map (λ slot. get_or slots slot [])) (kept_from n 0 (length slots))
    ∙ sym (fill_by_all (λ slot. get_or slots slot []) slots (length slots) [] refl (λ k l. refl))

pub slots_left-all : (slots : List (List Area)) → slots_left slots [] ≡ slots
slots_left-all slots = kept_slots-all slots 1

count_of_pushes-is : (pushed : ℕ → List Area) (count n : ℕ) → 1 ≤ n → ((p : ℕ) → p < n → length (pushed p) ≡ count) → count_of_pushes (map pushed (range_with_len 0 n)) ≡ count
count_of_pushes-is pushed count zero l h = absurd (omega arith)
count_of_pushes-is pushed count (suc n) l h = h 0 (omega arith)

same_count : (m n k : ℕ) → m ≡ k → n ≡ k → (m == n) ≡ true
same_count m n k e f = grind (arith, nat_tests)

same_counts : (pushed : ℕ → List Area) (count n a : ℕ) → ((p : ℕ) → a ≤ p → p < a + n → length (pushed p) ≡ count) → are_alike (λ (x y : List Area). length x == length y) (map pushed (range_with_len a n)) ≡ true
same_counts pushed count zero a h = refl
same_counts pushed count (suc n) a h =
    all_range (λ (y : List Area). length (pushed a) == length y) pushed n (a + 1) (λ p l m. same_count (length (pushed a)) (length (pushed p)) count (h a (omega arith) (omega arith)) (h p (omega arith) (omega arith)))

pops-const : {tag : Option ℕ} {count : ℕ} (n : ℕ) (popped : List ℕ) (pushed : ℕ → List Area) (out : ℕ → OutcomeParts) → AllSyncWith n popped count pushed tag out → pops_of (each_below n out) ≡ map (λ p. popped) (range_with_len 0 n)
pops-const n popped pushed out h = map_range-const (λ (o : OutcomeParts). o.pops) out popped n 0 (λ p l m. h.pops p (omega arith))

pushes-own : {tag : Option ℕ} {popped : List ℕ} {count : ℕ} (n : ℕ) (pushed : ℕ → List Area) (out : ℕ → OutcomeParts) → AllSyncWith n popped count pushed tag out → pushes_of (each_below n out) ≡ map pushed (range_with_len 0 n)
pushes-own n pushed out h = map_range-agree (λ (o : OutcomeParts). o.pushes) out pushed n 0 (λ p l m. h.pushes p (omega arith))

table_by : Bool → Bool → Bool → Option SyncFault
table_by pops pushes over = cond (not pops) (Some PopMismatch) (cond (not pushes) (Some PushMismatch) (cond over (Some TooManySlots) None))

not_over : (n : ℕ) → n ≤ most_slots → nat_lt most_slots n ≡ false
not_over n h = grind (arith, nat_tests)

table_fault-none : (slots : List (List Area)) (popped : List ℕ) (count : ℕ) (pushed : ℕ → List Area) (n : ℕ) → 1 ≤ n → ((p : ℕ) → p < n → length (pushed p) ≡ count) → length (slots_left slots popped) + count ≤ most_slots
    → table_fault slots (map (λ p. popped) (range_with_len 0 n)) (map pushed (range_with_len 0 n)) ≡ None
unfolding table_by
table_fault-none slots popped count pushed n some counts few =
    let pops : List (List ℕ) = map (λ p. popped) (range_with_len 0 n) in
    let pushes : List (List Area) = map pushed (range_with_len 0 n) in
    let same_pops : are_alike (pointwise nat_eq) pops ≡ true = are_alike-const (pointwise nat_eq) popped n 0 (same_itself popped) in
    let same_pushes : are_alike (λ (x y : List Area). length x == length y) pushes ≡ true = same_counts pushed count n 0 (λ p l m. counts p (omega arith)) in
    let left : length (kept_slots slots pops) ≡ length (slots_left slots popped) = ap (λ (xs : List (List Area)). length xs) (kept_slots-alike slots popped n some) in
    let number : count_of_pushes pushes ≡ count = count_of_pushes-is pushed count n some counts in
    let over : nat_lt most_slots (length (kept_slots slots pops) + count_of_pushes pushes) ≡ false = not_over (length (kept_slots slots pops) + count_of_pushes pushes) (omega arith) in
    λ i. table_by (same_pops i) (same_pushes i) (over i)

pub end_of-syncs : {tag : Option ℕ} (n step : ℕ) (slots : List (List Area)) (popped : List ℕ) (count : ℕ) (pushed : ℕ → List Area) (out : ℕ → OutcomeParts) → AllSyncWith n popped count pushed tag out → length (slots_left slots popped) + count ≤ most_slots → end_of step slots (each_below n out) ≡ None
unfolding end_of ending_by
end_of-syncs {tag = tag} n step slots popped count pushed out h few =
    let os = each_below n out in
    let syncs : list_any (λ (o : OutcomeParts). is_sync o.ended) os ≡ true = any_range-first (λ (o : OutcomeParts). is_sync o.ended) out n 0 h.some (ap is_sync (h.syncs 0 (omega (arith, h.some)))) in
    let halts : list_any (λ (o : OutcomeParts). not (is_sync o.ended)) os ≡ false = any_range-none (λ (o : OutcomeParts). not (is_sync o.ended)) out n 0 (λ p l m. ap (λ e. not (is_sync e)) (h.syncs p (omega arith))) in
    let tags : are_alike same_tag (map (λ (o : OutcomeParts). o.tag) os) ≡ true = ap (are_alike same_tag) (map_range-const (λ (o : OutcomeParts). o.tag) out tag n 0 (λ p l m. h.tags p (omega arith))) ∙ are_alike-const same_tag tag n 0 (same_tag-itself tag) in
    let table : table_fault slots (pops_of os) (pushes_of os) ≡ None = (λ i. table_fault slots (pops-const n popped pushed out h i) (pushes-own n pushed out h i)) ∙ table_fault-none slots popped count pushed n h.some h.counts few in
    let sync : sync_fault os slots ≡ None = λ i. ending_by (syncs i) (halts i) (tags i) (table i) in
    ap (λ b. cond b (Some (Faulted step (faults_from 0 os))) (end_without_fault step os (sync_fault os slots))) (no_fault n out h.faultless)
    ∙ ap (λ f. end_without_fault step os f) sync
    ∙ ap (λ b. cond b None (Some Halted)) syncs

pub next_table-syncs : {tag : Option ℕ} (n : ℕ) (slots : List (List Area)) (popped : List ℕ) (count : ℕ) (pushed : ℕ → List Area) (out : ℕ → OutcomeParts) → AllSyncWith n popped count pushed tag out
    → next_table slots (pops_of (each_below n out)) (pushes_of (each_below n out)) ≡ slots_left slots popped ++ slots_pushed n count pushed
next_table-syncs n slots popped count pushed out h =
    let pushes : List (List Area) = map pushed (range_with_len 0 n) in
    (λ i. next_table slots (pops-const n popped pushed out h i) (pushes-own n pushed out h i))
    ∙ (λ i. kept_slots-alike slots popped n h.some i ++ map (pushed_slot pushes) (range_with_len 0 (count_of_pushes-is pushed count n h.some h.counts i)))
    ∙ ap (λ xs. slots_left slots popped ++ xs) (range-agree (pushed_slot pushes) (λ k. map (λ p. get_or (pushed p) k no_area) (range_with_len 0 n)) count 0
    (λ k _ _. map_range-agree (λ (areas : List Area). get_or areas k no_area) pushed (λ p. get_or (pushed p) k no_area) n 0 (λ p _ _. refl)))
