-- The turns of a state's views meet the condition of its deliveries.
use Rattle.std.proofs.Common.{◌≡◌, ◌≤◌, ◌<◌, ◌+◌, ℕ, List, [], map, length, All, arith, get_or, refl, sym, ap, ◌∙◌, subst, Option, Some, None, slice_get}
use Rattle.std.proofs.lemmas.List.{get_or-map, length-map, get_or_default}
use Rattle.std.proofs.lemmas.List.FromFn.{get_or-map-range_with_len, length-map-range_with_len, fill_by_all}
use Rattle.std.proofs.lemmas.List.Elements.{All-weaker}
use Rattle.std.proofs.lemmas.Option.{slice_get_within, get_or_from_slice_get}
use Rattle.bsp_model.specs.Limits.{most_memory_words}
use Rattle.bsp_table.specs.declared.area.Area.{Area}
use Rattle.bsp_table.specs.Table.{area_at, area_in}
use Rattle.bsp_table.specs.NextTable.{AreSlotsInside, ArePushesInside, IsSlotInside, no_area, AreSlots, AreWithin}
use Rattle.bsp_step.specs.ViewParts.{ViewParts}
use Rattle.bsp_step.specs.OutcomeParts.{OutcomeParts, IsOutcome, IsOutcomeOf, no_outcome, outcome_of}
use Rattle.bsp_step.specs.Requests.{LiesIn}
use Rattle.bsp_deliver.specs.Requests.{each_below}
use Rattle.bsp_deliver.specs.Condition.{AreDeliverable, AreRequestsInside, sizes_of}
use Rattle.bsp_run.specs.State.{State, view_of, views_of, pushes_of}
use Rattle.bsp_run.specs.Condition.{AreOutcomesOf, IsState, no_view}

pub length-views_of : (args : List (List ℕ)) (step : ℕ) (s : State) → length (views_of args step s) ≡ length s.memories
unfolding views_of
length-views_of args step s = length-map-range_with_len (view_of args step s) 0 (length s.memories)

pub view-views_of : (args : List (List ℕ)) (step : ℕ) (s : State) (p : ℕ) → p < length s.memories → get_or (views_of args step s) p no_view ≡ view_of args step s p
unfolding views_of
view-views_of args step s p l = get_or-map-range_with_len (view_of args step s) 0 (length s.memories) p p no_view l (omega arith)

-- the lengths of a state's memories
abbrev pub sizes : State → List ℕ
sizes s = map (λ (m : List ℕ). length m) s.memories

-- what the outcome of a process of the state keeps
pub outcome_at : (args : List (List ℕ)) (step : ℕ) (s : State) (os : List OutcomeParts) (p : ℕ) → AreOutcomesOf (views_of args step s) os → p < length s.memories → IsOutcomeOf (view_of args step s p) (outcome_of os p)
outcome_at args step s os p h l =
    subst (λ (v : ViewParts). IsOutcomeOf v (outcome_of os p)) (view-views_of args step s p l) (h.each p (omega (arith, length-views_of args step s)))

-- as many outcomes as processes
pub count_of_outcomes : (args : List (List ℕ)) (step : ℕ) (s : State) (os : List OutcomeParts) → AreOutcomesOf (views_of args step s) os → length os ≡ length s.memories
count_of_outcomes args step s os h = h.count ∙ length-views_of args step s

-- computing keeps the lengths of the memories
pub sizes-same : (args : List (List ℕ)) (step : ℕ) (s : State) (os : List OutcomeParts) → AreOutcomesOf (views_of args step s) os → sizes_of os ≡ map (λ (m : List ℕ). length m) s.memories
sizes-same args step s os h =
    let count = count_of_outcomes args step s os h in
    let f : ℕ → ℕ = λ p. length (get_or s.memories p []) in
    fill_by_all f (sizes_of os) (length os) 0 (length-map os (λ (o : OutcomeParts). length o.memory))
    (λ k l. get_or-map (λ (o : OutcomeParts). length o.memory) os k no_outcome 0 l ∙ (outcome_at args step s os k h (omega arith)).memory)
    ∙ ap (λ n. each_below n f) count
    ∙ sym (fill_by_all f (map (λ (m : List ℕ). length m) s.memories) (length s.memories) 0 (length-map s.memories (λ (m : List ℕ). length m)) (λ k l. get_or-map (λ (m : List ℕ). length m) s.memories k [] 0 l))

covered_case : (areas : List Area) (ns : List ℕ) (p start len : ℕ) → IsSlotInside ns areas → (o : Option Area) → slice_get areas p ≡ o → LiesIn o start len → start + len ≤ get_or ns p 0
covered_case areas ns p start len h None e covered = absurd covered
covered_case areas ns p start len h (Some a) e covered =
    let is : get_or areas p no_area ≡ a = get_or_from_slice_get areas p a no_area e in
    let fits : (get_or areas p no_area).start + (get_or areas p no_area).len ≤ get_or ns p 0 = h p (slice_get_within areas p a e) in
    let same : a.start + a.len ≤ get_or ns p 0 = subst (λ (x : Area). x.start + x.len ≤ get_or ns p 0) is fits in
    omega (arith, covered.0, covered.1)

slot_case : (slots : List (List Area)) (ns : List ℕ) (slot p start len : ℕ) → AreSlotsInside ns slots → (o : Option (List Area)) → slice_get slots slot ≡ o → LiesIn (area_in o p) start len → start + len ≤ get_or ns p 0
slot_case slots ns slot p start len h None e covered = absurd covered
slot_case slots ns slot p start len h (Some areas) e covered =
    covered_case areas ns p start len (subst (IsSlotInside ns) (get_or_from_slice_get slots slot areas [] e) (h slot [] (slice_get_within slots slot areas e))) (slice_get areas p) refl covered

-- words inside an area are inside the memory that the area is inside of
pub inside_area : (slots : List (List Area)) (ns : List ℕ) (slot p start len : ℕ) → AreSlotsInside ns slots → LiesIn (area_at slots (Some slot) p) start len → start + len ≤ get_or ns p 0
inside_area slots ns slot p start len h covered = slot_case slots ns slot p start len h (slice_get slots slot) refl covered

requests_inside : (args : List (List ℕ)) (step : ℕ) (s : State) (os : List OutcomeParts) (k : ℕ) → IsState s → AreOutcomesOf (views_of args step s) os → k < length s.memories → AreRequestsInside (sizes s) (outcome_of os k)
requests_inside args step s os k state h l =
    let o = outcome_at args step s os k h l in
    let long : length (sizes s) ≡ length s.memories = length-map s.memories (λ (m : List ℕ). length m) in
    record {
      puts = λ j d q.
          let p = o.issued.placed.each j d q in
          record {
            known = omega (arith, p.target_below);
            inside = inside_area s.table (sizes s) p.slot (get_or (outcome_of os k).puts j d).target (get_or (outcome_of os k).puts j d).start (length (get_or (outcome_of os k).puts j d).words) state.inside p.covered;
          };
      gets = λ j d q.
          let g = o.issued.asked.each j d q in
          record {
            known = omega (arith, g.owner_below);
            inside = inside_area s.table (sizes s) g.slot (get_or (outcome_of os k).gets j d).owner (get_or (outcome_of os k).gets j d).start (get_or (outcome_of os k).gets j d).len state.inside g.covered;
            room = omega (arith, g.own, o.memory);
          };
      sends = λ j d q. let m = o.issued.addressed.each j d q in omega (arith, m.target_below);
    }

-- areas inside memories give the condition of the deliveries
pub AreDeliverable-from_turns : (args : List (List ℕ)) (step : ℕ) (s : State) (os : List OutcomeParts) → IsState s → AreOutcomesOf (views_of args step s) os → AreDeliverable os
AreDeliverable-from_turns args step s os state h =
    let count = count_of_outcomes args step s os h in
    record {
      some = omega (arith, state.some);
      few = omega (arith, state.few);
      short = All-weaker IsOutcome (λ o. length o.memory ≤ most_memory_words) (λ o m. m.short_memory) os h.limits;
      inside = λ k d l.
          subst (AreRequestsInside (sizes_of os)) (get_or_default os k no_outcome d l)
          (subst (λ ns. AreRequestsInside ns (outcome_of os k)) (sym (sizes-same args step s os h)) (requests_inside args step s os k state h (omega arith)));
    }

-- each process's pops are distinct slots of the table
pub pops_are_slots : (args : List (List ℕ)) (step : ℕ) (s : State) (os : List OutcomeParts) → AreOutcomesOf (views_of args step s) os → All (λ o. AreSlots s.table o.pops) os
pops_are_slots args step s os h =
    λ k d l. subst (λ (o : OutcomeParts). AreSlots s.table o.pops) (get_or_default os k no_outcome d l) (outcome_at args step s os k h (omega (arith, count_of_outcomes args step s os h))).issued.popped

-- each process's pushes lie inside its memory
pub pushes_are_inside : (args : List (List ℕ)) (step : ℕ) (s : State) (os : List OutcomeParts) → AreOutcomesOf (views_of args step s) os → ArePushesInside (sizes s) (pushes_of os)
pushes_are_inside args step s os h p k l q =
    let count = count_of_outcomes args step s os h in
    let long : length (pushes_of os) ≡ length os = length-map os (λ (o : OutcomeParts). o.pushes) in
    let here : p < length s.memories = omega arith in
    let is : get_or (pushes_of os) p [] ≡ (outcome_of os p).pushes = get_or-map (λ (o : OutcomeParts). o.pushes) os p no_outcome [] (omega arith) in
    let size : get_or (sizes s) p 0 ≡ length (get_or s.memories p []) = get_or-map (λ (m : List ℕ). length m) s.memories p [] 0 here in
    let within = (outcome_at args step s os p h here).issued.pushed.each k no_area (rw is at q) in
    rw (is, size) within

-- each process's pushes end within the longest memory
pub pushes_within : (args : List (List ℕ)) (step : ℕ) (s : State) (os : List OutcomeParts) → IsState s → AreOutcomesOf (views_of args step s) os → All (λ o. AreWithin most_memory_words o.pushes) os
pushes_within args step s os state h =
    λ k d l.
    let here : k < length s.memories = omega (arith, count_of_outcomes args step s os h) in
    subst (λ (o : OutcomeParts). AreWithin most_memory_words o.pushes) (get_or_default os k no_outcome d l)
    (λ j e q. let short : length (get_or s.memories k []) ≤ most_memory_words = state.short_memories k [] here in omega (arith, (outcome_at args step s os k h here).issued.pushed.each j e q))
