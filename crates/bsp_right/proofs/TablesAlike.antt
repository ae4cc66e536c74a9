-- Tables in whose slots all processes have the same area, as pushes leave them that all make alike.
use Rattle.std.proofs.Common.{◌&&◌, ◌+◌, ◌++◌, ◌<◌, ◌==◌, Bool, List, None, Some, [], ap, arith, cond, false, filter, get_or, length, map, not, refl, suc, sym, take, true, zero, ℕ, ◌∙◌, ◌∷◌, ◌≡◌, ◌≤◌}
use Rattle.std.proofs.lemmas.List.{get_or-map, length-map, map-append, take_all, take_more}
use Rattle.std.proofs.lemmas.List.FromFn.{fill_by_all, get_or-map-range_with_len, length-map-range_with_len}
use Rattle.std.proofs.lemmas.Option.{slice_get-get_or, slice_get-map}
use Rattle.std.specs.List.{range_with_len}
use Rattle.std.specs.Option.{option_map}
use Rattle.std.specs.Prelude.{slice_get}
use Rattle.bsp_table.specs.declared.area.Area.{Area}
use Rattle.bsp_table.specs.NextTable.{is_popped, no_area}
use Rattle.bsp_table.specs.Table.{area_at, area_in, has_start, newest, newest_below, starts_at}
use Rattle.bsp_step.specs.Perform.{target_area}
use Rattle.bsp_step.specs.ViewParts.{ViewParts}
use Rattle.bsp_deliver.specs.Delivery.{last_of, later}
use Rattle.bsp_right.proofs.NextSuperstep.{slots_of}
use Rattle.bsp_right.proofs.Ranges.{map_range-agree}
use Rattle.bsp_right.proofs.SuperstepEnds.{slots_left}

-- a slot for each of these areas, which is that of every process
abbrev pub alike_slot : ℕ → Area → List Area
alike_slot n a = map (λ p. a) (range_with_len 0 n)

abbrev pub alike_slots : ℕ → List Area → List (List Area)
alike_slots n areas = map (alike_slot n) areas

last_of-push : {X : Type 0} (test : X → Bool) (xs : List X) (x : X) → last_of test (xs ++ x ∷ []) ≡ cond (test x) (Some x) (last_of test xs)
last_of-push test [] x = elim (test x) as (λ b. later (cond b (Some x) None) None ≡ cond b (Some x) None) [ true ↦ refl | false ↦ refl ]
last_of-push test (y ∷ ys) x =
    ap (later (cond (test y) (Some y) None)) (last_of-push test ys x)
    ∙ elim (test x) as (λ b. later (cond (test y) (Some y) None) (cond b (Some x) (last_of test ys)) ≡ cond b (Some x) (later (cond (test y) (Some y) None) (last_of test ys))) [ true ↦ refl | false ↦ refl ]

at_process : (n p : ℕ) (a : Area) → p < n → slice_get (alike_slot n a) p ≡ Some a
at_process n p a l =
    let count : length (alike_slot n a) ≡ n = length-map-range_with_len (λ q. a) 0 n in
    slice_get-get_or (alike_slot n a) p a (omega arith) ∙ ap Some (get_or-map-range_with_len (λ q. a) 0 n p p a l (omega arith))

at_slot : (n k : ℕ) (areas : List Area) → k < length areas → slice_get (alike_slots n areas) k ≡ Some (alike_slot n (get_or areas k no_area))
at_slot n k areas l = slice_get-map (alike_slot n) areas k ∙ ap (option_map (alike_slot n)) (slice_get-get_or areas k no_area l)

found_below : (n own pid start : ℕ) (areas : List Area) → own < n → pid < n → (m : ℕ) → m ≤ length areas
    → area_at (alike_slots n areas) (newest_below (alike_slots n areas) own start [] m) pid ≡ last_of (λ (a : Area). a.start == start) (take m areas)
found_below n own pid start areas l h zero below = refl
found_below n own pid start areas l h (suc m) below =
    let slots = alike_slots n areas in
    let a : Area = get_or areas m no_area in
    let test : Area → Bool = λ (x : Area). x.start == start in
    let slot : slice_get slots m ≡ Some (alike_slot n a) = at_slot n m areas (omega arith) in
    let rest = newest_below slots own start [] m in
    let one : suc m ≡ m + 1 = omega arith in
    ap (λ o. area_at slots (cond (has_start own start o && true) (Some m) rest) pid) slot
    ∙ ap (λ o. area_at slots (cond (starts_at start o && true) (Some m) rest) pid) (at_process n own a l)
    ∙ elim (a.start == start) as (λ b. area_at slots (cond (b && true) (Some m) rest) pid ≡ cond b (Some a) (last_of test (take m areas))) [
      | true ↦ ap (λ o. area_in o pid) slot ∙ at_process n pid a h
      | false ↦ found_below n own pid start areas l h m (omega arith)
    ]
    ∙ sym (ap (λ k. last_of test (take k areas)) one ∙ ap (last_of test) (take_more areas m no_area (omega arith)) ∙ last_of-push test (take m areas) a)

-- An address names the newest area that starts there.
pub target_area-alike : (n own pid start : ℕ) (areas : List Area) → own < n → pid < n → (v : ViewParts) → v.pid ≡ own → v.table ≡ alike_slots n areas → target_area v pid start ≡ last_of (λ (a : Area). a.start == start) areas
target_area-alike n own pid start areas l h v is table =
    let slots = alike_slots n areas in
    let count : length slots ≡ length areas = length-map areas (alike_slot n) in
    (λ i. area_at (table i) (newest (table i) (is i) start) pid)
    ∙ ap (λ m. area_at slots (newest_below slots own start [] m) pid) count
    ∙ found_below n own pid start areas l h (length areas) (omega arith)
    ∙ ap (last_of (λ (a : Area). a.start == start)) (take_all (length areas) areas (omega arith))
