-- The turns of prefix sums.
use Rattle.std.proofs.Common.{◌%◌, ◌+◌, ◌<◌, ◌==◌, Bool, List, None, Some, [], ◌^◌, ap, arith, cond, false, get_or, length, map, nat_lt, refl, set, sym, true, ℕ, ◌∙◌, ◌∷◌, ◌≡◌, ◌≤◌}
use Rattle.std.proofs.lemmas.Bool.{le-leb}
use Rattle.std.proofs.lemmas.List.{length-set}
use Rattle.std.proofs.lemmas.Bool.Decides.{nat_tests}
use Rattle.std.specs.List.{range_with_len}
use Rattle.std.specs.Prelude.{slice_get}
use Rattle.std.proofs.lemmas.Option.{slice_get-get_or}
use Rattle.bsp_model.specs.declared.fault.Fault.TheVariants.{BadLocal}
use Rattle.bsp_model.specs.declared.fault.End.TheVariants.{Halt, Sync}
use Rattle.bsp_model.specs.declared.request.Store.{Store}
use Rattle.bsp_table.specs.declared.area.Area.{Area}
use Rattle.bsp_step.specs.Context.{Context, fresh}
use Rattle.bsp_step.specs.declared.outcome.Ended.TheVariants.{Halt as HaltEnd}
use Rattle.bsp_step.specs.OutcomeParts.{OutcomeParts}
use Rattle.bsp_step.specs.ViewParts.{ViewParts}
use Rattle.bsp_step.specs.Act.{charge, print, push_reg, put}
use Rattle.bsp_step.specs.Turn.{closed}
use Rattle.bsp_step.specs.Plan.{does, given_word}
use Rattle.bsp_step.specs.Perform.{fault_unless, perform, perform_all, performed, target_area}
use Rattle.bsp_programs.specs.Doubling.{distance}
use Rattle.bsp_programs.specs.Prefix.{has_received, prefix_adding, prefix_sending}
use Rattle.bsp_right.specs.Summed.{prefix_turn}
use Rattle.bsp_right.proofs.PutsAllowed.{area-one_slot, perform-put}
use Rattle.bsp_right.proofs.DescribedStates.{no_queue, of_plan, quiet, view_described}

abbrev pub two_words : Area
two_words = record { start = 0; len = 2 }

abbrev pub two_slot : ℕ → List (List Area)
two_slot n = map (λ p. two_words) (range_with_len 0 n) ∷ []

-- a memory after a process adds to it the word that came, if one did
abbrev pub added_if : Bool → List ℕ → List ℕ
added_if b memory = cond b (set memory 0 ((get_or memory 0 0 + get_or memory 1 0) % 2 ^ 64)) memory

abbrev pub added : ℕ → (ℕ → List ℕ) → ℕ → List ℕ
added s memory p = added_if (has_received s p) (memory p)

abbrev pub stores_if : Bool → List ℕ → List Store
stores_if b memory = cond b (record { addr = 0; value = (get_or memory 0 0 + get_or memory 1 0) % 2 ^ 64 } ∷ []) []

abbrev pub work_if : Bool → ℕ
work_if b = cond b 1 0

-- the turns
abbrev pub registers_two : (ℕ → List ℕ) → ℕ → OutcomeParts
registers_two memory p = record (quiet (memory p)) { pushes = two_words ∷ [] }

abbrev pub passes : ℕ → ℕ → (ℕ → List ℕ) → ℕ → OutcomeParts
passes n s memory p =
    record (quiet (added s memory p)) {
      stores = stores_if (has_received s p) (memory p);
      puts = cond (nat_lt (p + distance s) n) (record { target = p + distance s; start = 1; words = get_or (added s memory p) 0 0 ∷ [] } ∷ []) [];
      work = work_if (has_received s p);
    }

abbrev pub prints_sum : ℕ → (ℕ → List ℕ) → ℕ → OutcomeParts
prints_sum s memory p =
    record (quiet (added s memory p)) {
      ended = HaltEnd;
      stores = stores_if (has_received s p) (memory p);
      lines = (get_or (added s memory p) 0 0 ∷ []) ∷ [];
      work = work_if (has_received s p);
    }

pub turn_registers_two : (args : List (List ℕ)) (n : ℕ) (memory : ℕ → List ℕ) (p : ℕ) → 2 ≤ length (memory p) → prefix_turn (view_described args 0 n memory no_queue [] 0 p) ≡ registers_two memory p
turn_registers_two args n memory p h =
    let v = view_described args 0 n memory no_queue [] 0 p in
    ap (λ b. closed (performed None (fault_unless b BadLocal) (fresh v) (record (fresh v) { pushes = two_words ∷ [] })) Sync) (le-leb 2 (length (memory p)) h)

-- the state of the turn after the adding
abbrev pub summed : ViewParts → List ℕ → List Store → ℕ → Context
summed v memory stores work = record (fresh v) { memory = memory; stores = stores; work = work }

-- what is left after it
abbrev pub then_sends : ViewParts → List ℕ → List Store → ℕ → OutcomeParts
then_sends v memory stores work = closed (perform_all (summed v memory stores work) (prefix_sending v memory).acts) (prefix_sending v memory).ending

not_first : (s : ℕ) → 1 ≤ s → (s == 0) ≡ false
not_first s h = grind (arith, nat_tests)

is_room : (k : ℕ) → 2 ≤ k → nat_lt 0 k ≡ true
is_room k h = grind (arith, nat_tests)

adds_if : (b : Bool) (v : ViewParts) → 2 ≤ length v.memory → of_plan v (cond b (given_word (slice_get v.memory 0) (λ own. given_word (slice_get v.memory 1) (λ received. prefix_adding v v.memory ((own + received) % 2 ^ 64)))) (prefix_sending v v.memory)) ≡ then_sends v (added_if b v.memory) (stores_if b v.memory) (work_if b)
adds_if false v h = refl
adds_if true v h =
    let m = v.memory in
    let sum = (get_or m 0 0 + get_or m 1 0) % 2 ^ 64 in
    ap (λ o. of_plan v (given_word o (λ own. given_word (slice_get m 1) (λ received. prefix_adding v m ((own + received) % 2 ^ 64))))) (slice_get-get_or m 0 0 (omega arith))
    ∙ ap (λ o. of_plan v (given_word o (λ received. prefix_adding v m ((get_or m 0 0 + received) % 2 ^ 64)))) (slice_get-get_or m 1 0 (omega arith))
    ∙ ap (λ b. closed (perform_all (perform (performed None (fault_unless b BadLocal) (fresh v) (record (fresh v) { memory = set m 0 sum; stores = record { addr = 0; value = sum } ∷ [] })) (charge 1)) (prefix_sending v (set m 0 sum)).acts) (prefix_sending v (set m 0 sum)).ending) (is_room (length m) h)

adds : (args : List (List ℕ)) (s n : ℕ) (memory : ℕ → List ℕ) (table : List (List Area)) (p : ℕ) → 1 ≤ s → 2 ≤ length (memory p)
    → prefix_turn (view_described args s n memory no_queue table 0 p) ≡ then_sends (view_described args s n memory no_queue table 0 p) (added s memory p) (stores_if (has_received s p) (memory p)) (work_if (has_received s p))
adds args s n memory table p first h =
    let v = view_described args s n memory no_queue table 0 p in
    ap (λ b. of_plan v (cond b (does (push_reg 0 2 ∷ []) Sync) (cond (has_received s p) (given_word (slice_get v.memory 0) (λ own. given_word (slice_get v.memory 1) (λ received. prefix_adding v v.memory ((own + received) % 2 ^ 64)))) (prefix_sending v v.memory)))) (not_first s first)
    ∙ adds_if (has_received s p) v h

length-added : (b : Bool) (m : List ℕ) → length (added_if b m) ≡ length m
length-added true m = length-set m 0 ((get_or m 0 0 + get_or m 1 0) % 2 ^ 64)
length-added false m = refl

pub length-added_at : (s : ℕ) (memory : ℕ → List ℕ) (p : ℕ) → length (added s memory p) ≡ length (memory p)
length-added_at s memory p = length-added (has_received s p) (memory p)

-- the put of a process, if its target is there
reach_if : (b : Bool) (v : ViewParts) (m : List ℕ) (stores : List Store) (work target : ℕ) → nat_lt target v.nprocs ≡ b → 1 ≤ length m → (target < v.nprocs → target_area v target 0 ≡ Some two_words)
    → closed (perform_all (summed v m stores work) (cond (nat_lt target v.nprocs) (given_word (slice_get m 0) (λ word. does (put target (word ∷ []) 0 1 ∷ []) Sync)) (does [] Sync)).acts) (cond (nat_lt target v.nprocs) (given_word (slice_get m 0) (λ word. does (put target (word ∷ []) 0 1 ∷ []) Sync)) (does [] Sync)).ending
    ≡ record (quiet m) { stores = stores; puts = cond (nat_lt target v.nprocs) (record { target = target; start = 1; words = get_or m 0 0 ∷ [] } ∷ []) []; work = work }
reach_if false v m stores work target e some at =
    ap (λ b. closed (perform_all (summed v m stores work) (cond b (given_word (slice_get m 0) (λ word. does (put target (word ∷ []) 0 1 ∷ []) Sync)) (does [] Sync)).acts) (cond b (given_word (slice_get m 0) (λ word. does (put target (word ∷ []) 0 1 ∷ []) Sync)) (does [] Sync)).ending) e
    ∙ ap (λ b. record (quiet m) { stores = stores; puts = cond b (record { target = target; start = 1; words = get_or m 0 0 ∷ [] } ∷ []) []; work = work }) (sym e)
reach_if true v m stores work target e some at =
    let below : target < v.nprocs = grind (arith, nat_tests) in
    ap (λ b. closed (perform_all (summed v m stores work) (cond b (given_word (slice_get m 0) (λ word. does (put target (word ∷ []) 0 1 ∷ []) Sync)) (does [] Sync)).acts) (cond b (given_word (slice_get m 0) (λ word. does (put target (word ∷ []) 0 1 ∷ []) Sync)) (does [] Sync)).ending) e
    ∙ ap (λ o. closed (perform_all (summed v m stores work) (given_word o (λ word. does (put target (word ∷ []) 0 1 ∷ []) Sync)).acts) (given_word o (λ word. does (put target (word ∷ []) 0 1 ∷ []) Sync)).ending) (slice_get-get_or m 0 0 (omega arith))
    ∙ ap (λ (c : Context). closed c Sync) (perform-put (summed v m stores work) target (get_or m 0 0) 0 1 two_words refl (omega arith) below (at below) (omega arith))
    ∙ ap (λ b. record (quiet m) { stores = stores; puts = cond b (record { target = target; start = 1; words = get_or m 0 0 ∷ [] } ∷ []) []; work = work }) (sym e)

-- The turn of a superstep that is not the last.
pub turn_passes : (args : List (List ℕ)) (s n : ℕ) (memory : ℕ → List ℕ) (p : ℕ) → 1 ≤ s → p < n → 2 ≤ length (memory p) → distance s < n
    → prefix_turn (view_described args s n memory no_queue (two_slot n) 0 p) ≡ passes n s memory p
turn_passes args s n memory p first below h far =
    let v = view_described args s n memory no_queue (two_slot n) 0 p in
    let m = added s memory p in
    let goes : nat_lt (distance s) n ≡ true = grind (arith, nat_tests) in
    let word = given_word (slice_get m 0) (λ word. does (put (p + distance s) (word ∷ []) 0 1 ∷ []) Sync) in
    let last = given_word (slice_get m 0) (λ word. does (print (word ∷ []) ∷ []) Halt) in
    adds args s n memory (two_slot n) p first h
    ∙ ap (λ b. closed (perform_all (summed v m (stores_if (has_received s p) (memory p)) (work_if (has_received s p))) (cond b (cond (nat_lt (p + distance s) n) word (does [] Sync)) last).acts) (cond b (cond (nat_lt (p + distance s) n) word (does [] Sync)) last).ending) goes
    ∙ reach_if (nat_lt (p + distance s) n) v m (stores_if (has_received s p) (memory p)) (work_if (has_received s p)) (p + distance s) refl (omega (arith, length-added_at s memory p))
    (λ l. area-one_slot n p (p + distance s) two_words below l v refl refl)

-- That of the last.
pub turn_prints_sum : (args : List (List ℕ)) (s n : ℕ) (memory : ℕ → List ℕ) (table : List (List Area)) (p : ℕ) → 1 ≤ s → 2 ≤ length (memory p) → n ≤ distance s
    → prefix_turn (view_described args s n memory no_queue table 0 p) ≡ prints_sum s memory p
turn_prints_sum args s n memory table p first h near =
    let v = view_described args s n memory no_queue table 0 p in
    let m = added s memory p in
    let stops : nat_lt (distance s) n ≡ false = grind (arith, nat_tests) in
    let word = given_word (slice_get m 0) (λ word. does (put (p + distance s) (word ∷ []) 0 1 ∷ []) Sync) in
    let c = summed v m (stores_if (has_received s p) (memory p)) (work_if (has_received s p)) in
    adds args s n memory table p first h
    ∙ ap (λ b. closed (perform_all c (cond b (cond (nat_lt (p + distance s) n) word (does [] Sync)) (given_word (slice_get m 0) (λ word. does (print (word ∷ []) ∷ []) Halt))).acts) (cond b (cond (nat_lt (p + distance s) n) word (does [] Sync)) (given_word (slice_get m 0) (λ word. does (print (word ∷ []) ∷ []) Halt))).ending) stops
    ∙ ap (λ o. closed (perform_all c (given_word o (λ word. does (print (word ∷ []) ∷ []) Halt)).acts) (given_word o (λ word. does (print (word ∷ []) ∷ []) Halt)).ending) (slice_get-get_or m 0 0 (omega (arith, length-added_at s memory p)))
