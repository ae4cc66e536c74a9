-- What it means that a slot is found.
use Rattle.std.proofs.Common.{◌≡◌, ◌<◌, ◌≤◌, ◌+◌, ℕ, List, [], ◌∷◌, ◌++◌, Option, None, Some, length, arith, zero, suc, ◌==◌, ◌&&◌, not, slice_get, false, true, Bool, ◌≢◌, refl, cond, All, get_or}
use Rattle.std.specs.Prelude.{IsSome}
use Rattle.std.specs.List.{list_any, AllPairs}
use Rattle.std.proofs.lemmas.Grind.{common_steps}
use Rattle.std.proofs.lemmas.Option.{slice_get-get_or, slice_get_within, get_or_from_slice_get}
use Rattle.std.proofs.lemmas.List.Elements.{All-push}
use Rattle.std.proofs.lemmas.List.Folds.{list_any_at}
use Rattle.bsp_model.specs.Limits.{most_memory_words}
use Rattle.bsp_table.specs.declared.area.Area.{Area}
use Rattle.bsp_table.specs.Table.{newest, newest_under, newest_below, is_slot_named, has_start, area_at, area_in}
use Rattle.bsp_table.specs.NextTable.{AreSlots, no_area}

and_not_true : (a b : Bool) → (a && not b) ≡ true → b ≡ false
and_not_true true true h = cc
and_not_true true false h = refl
and_not_true false b h = cc

found_case : (slots : List (List Area)) (pid start : ℕ) (pops : List ℕ) (n k : ℕ) (b : Bool) → is_slot_named slots n pid start pops ≡ b → cond b (Some n) (newest_below slots pid start pops n) ≡ Some k → (newest_below slots pid start pops n ≡ Some k → (k < n) × (list_any (λ j. j == k) pops ≡ false)) → (k < suc n) × (list_any (λ j. j == k) pops ≡ false)
found_case slots pid start pops n k true named e before =
    let same : n ≡ k = cc in
    let free : list_any (λ j. j == n) pops ≡ false = and_not_true (has_start pid start (slice_get slots n)) (list_any (λ j. j == n) pops) named in
    (omega arith, rw same at free)
found_case slots pid start pops n k false named e before =
    let b = before e in (omega arith, b.1)

-- a slot that is found is one of the first n, and is not popped
pub found_below : (slots : List (List Area)) (pid start : ℕ) (pops : List ℕ) (n k : ℕ) → newest_below slots pid start pops n ≡ Some k → (k < n) × (list_any (λ j. j == k) pops ≡ false)
found_below slots pid start pops zero k e = cc
found_below slots pid start pops (suc n) k e =
    found_case slots pid start pops n k (is_slot_named slots n pid start pops) refl e (λ h. found_below slots pid start pops n k h)

-- each slot of a full table has an area for each process
pub has_area : (slots : List (List Area)) (nprocs slot pid : ℕ) → All (λ areas. length areas ≡ nprocs) slots → slot < length slots → pid < nprocs → IsSome (area_at slots (Some slot) pid)
has_area slots nprocs slot pid full within below =
    let areas : List Area = get_or slots slot [] in
    let long : length areas ≡ nprocs = full slot [] within in
    let here : slice_get slots slot ≡ Some areas = slice_get-get_or slots slot [] within in
    let there : slice_get areas pid ≡ Some (get_or areas pid no_area) = slice_get-get_or areas pid no_area (omega arith) in
    rw (here, there) refl

-- a found slot has an area for each process
pub has_target : (slots : List (List Area)) (nprocs own start slot pid : ℕ) → All (λ areas. length areas ≡ nprocs) slots → newest slots own start ≡ Some slot → pid < nprocs → IsSome (area_at slots (Some slot) pid)
has_target slots nprocs own start slot pid full found below =
    has_area slots nprocs slot pid full (found_below slots own start [] (length slots) slot found).0 below

apart : (pops : List ℕ) (k : ℕ) → AllPairs (λ i j. i ≢ j) pops → list_any (λ j. j == k) pops ≡ false → AllPairs (λ i j. i ≢ j) (pops ++ k ∷ [])
apart pops k old free i j d lt within = grind (arith, common_steps, old i j d, list_any_at (λ j. j == k) pops i d)

-- a found slot is another than those popped before
pub AreSlots-push : (slots : List (List Area)) (pid : ℕ) (pops : List ℕ) (start k : ℕ) → AreSlots slots pops → newest_under slots pid start pops ≡ Some k → AreSlots slots (pops ++ k ∷ [])
AreSlots-push slots pid pops start k old e =
    let f = found_below slots pid start pops (length slots) k e in
    record { each = All-push (λ j. j < length slots) pops k old.each f.0; distinct = apart pops k old.distinct f.1 }

inside_slot : (o : Option (List Area)) (slots : List (List Area)) (slot pid : ℕ) (a : Area) → slice_get slots slot ≡ o → All (λ areas. All (λ a. a.start + a.len ≤ most_memory_words) areas) slots → area_in o pid ≡ Some a → a.start + a.len ≤ most_memory_words
inside_slot None slots slot pid a at inside e = cc
inside_slot (Some areas) slots slot pid a at inside e =
    let here = inside slot areas (slice_get_within slots slot areas at) in
    let same : get_or slots slot areas ≡ areas = get_or_from_slice_get slots slot areas areas at in
    let there : get_or areas pid a ≡ a = get_or_from_slice_get areas pid a a e in
    rw there at ((rw same at here) pid a (slice_get_within areas pid a e))

-- each area of a table ends within the largest memory
pub area_inside : (slots : List (List Area)) (k : Option ℕ) (pid : ℕ) (a : Area) → All (λ areas. All (λ a. a.start + a.len ≤ most_memory_words) areas) slots → area_at slots k pid ≡ Some a → a.start + a.len ≤ most_memory_words
area_inside slots None pid a inside e = cc
area_inside slots (Some slot) pid a inside e = inside_slot (slice_get slots slot) slots slot pid a refl inside e
