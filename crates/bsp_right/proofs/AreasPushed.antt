-- A superstep in which each process pushes areas of its own, as many as every other, and what the slots of these areas say.
use Rattle.std.proofs.Common.{◌≡◌, ◌≢◌, ◌≤◌, ◌<◌, ◌+◌, ◌++◌, ◌==◌, ◌&&◌, ◌∙◌, ℕ, zero, suc, true, false, cond, List, None, Some, [], map, length, get_or, arith, ap, subst, inl, inr}
use Rattle.std.specs.Prelude.{slice_get}
use Rattle.std.specs.List.{range_with_len}
use Rattle.std.proofs.lemmas.Bool.{cases_lt}
use Rattle.std.proofs.lemmas.Bool.Decides.{nat_tests}
use Rattle.std.proofs.lemmas.List.FromFn.{get_or-map-range_with_len, length-map-range_with_len}
use Rattle.std.proofs.lemmas.Option.{slice_get-get_or}
use Rattle.bsp_model.specs.Limits.{most_slots}
use Rattle.bsp_model.specs.declared.input.Input.{Input}
use Rattle.bsp_model.specs.declared.request.Message.{Message}
use Rattle.bsp_table.specs.declared.area.Area.{Area}
use Rattle.bsp_table.specs.NextTable.{no_area}
use Rattle.bsp_table.specs.Table.{area_at, area_in, has_start, is_slot_named, newest, newest_below, starts_at}
use Rattle.bsp_step.specs.declared.outcome.Ended.TheVariants.{Sync}
use Rattle.bsp_step.specs.OutcomeParts.{OutcomeParts}
use Rattle.bsp_step.specs.Perform.{target_area}
use Rattle.bsp_step.specs.ViewParts.{ViewParts}
use Rattle.bsp_deliver.specs.Delivery.{delivery_parts, next_memory}
use Rattle.bsp_deliver.specs.Requests.{each_below}
use Rattle.bsp_run.specs.Law.{state_at}
use Rattle.bsp_right.proofs.DescribedStates.{described, no_queue, view_described}
use Rattle.bsp_right.proofs.NextSuperstep.{GoesOn, goes_on_with, next_queue-none}
use Rattle.bsp_right.proofs.SuperstepEnds.{AllSyncWith, slots_left, slots_left-all, slots_pushed}

-- processes that pop nothing and push so many areas, each its own, and go on to the next superstep
pub record AllPush (nprocs count : ℕ) (pushed : ℕ → List Area) (out : ℕ → OutcomeParts) : Type 0 where
  pub some : 1 ≤ nprocs
  pub counts : (p : ℕ) → p < nprocs → length (pushed p) ≡ count
  pub faultless : (p : ℕ) → p < nprocs → (out p).fault ≡ None
  pub syncs : (p : ℕ) → p < nprocs → (out p).ended ≡ Sync
  pub pops : (p : ℕ) → p < nprocs → (out p).pops ≡ []
  pub pushes : (p : ℕ) → p < nprocs → (out p).pushes ≡ pushed p
  pub tags : (p : ℕ) → p < nprocs → (out p).tag ≡ None

AllPush-with : (n count : ℕ) (pushed : ℕ → List Area) (out : ℕ → OutcomeParts) → AllPush n count pushed out → AllSyncWith n [] count pushed None out
AllPush-with n count pushed out h =
    record {
      some = h.some;
      faultless = h.faultless;
      syncs = h.syncs;
      pops = h.pops;
      counts = h.counts;
      pushes = h.pushes;
      tags = h.tags;
    }

-- A superstep of a described state, whose turns are described and push areas, ends by delivery, and the next state is described.
pub goes_on_pushing : (turn : ViewParts → OutcomeParts) (input : Input) (s n : ℕ) (memory new : ℕ → List ℕ) (queue : ℕ → List Message) (table : List (List Area)) (tag count : ℕ) (pushed : ℕ → List Area) (out : ℕ → OutcomeParts)
    → state_at turn input s ≡ described n memory queue table tag
    → ((p : ℕ) → p < n → turn (view_described input.args s n memory queue table tag p) ≡ out p)
    → AllPush n count pushed out → length table + count ≤ most_slots → ((p : ℕ) → p < n → (out p).sends ≡ [])
    → ((d : ℕ) → d < n → next_memory (delivery_parts (each_below n out) d) ≡ new d)
    → GoesOn turn input s n new (table ++ slots_pushed n count pushed) tag out
goes_on_pushing turn input s n memory new queue table tag count pushed out is turns pushes few quiet memories =
    let all : slots_left table [] ≡ table = slots_left-all table in
    let same : length (slots_left table []) ≡ length table = ap (λ (xs : List (List Area)). length xs) all in
    subst (λ slots. GoesOn turn input s n new (slots ++ slots_pushed n count pushed) tag out) all
    (goes_on_with turn input s n memory new queue no_queue table tag [] count pushed None out is turns (AllPush-with n count pushed out pushes) (omega arith) (λ d l. next_queue-none n d out quiet) memories)

-- slot k of these slots, and the area of a process in it
abbrev pub slot_pushed : ℕ → (ℕ → List Area) → ℕ → List Area
slot_pushed n pushed k = map (λ p. get_or (pushed p) k no_area) (range_with_len 0 n)

slot-pushed : (n count : ℕ) (pushed : ℕ → List Area) (k : ℕ) → k < count → slice_get (slots_pushed n count pushed) k ≡ Some (slot_pushed n pushed k)
slot-pushed n count pushed k l =
    let number : length (slots_pushed n count pushed) ≡ count = length-map-range_with_len (slot_pushed n pushed) 0 count in
    slice_get-get_or (slots_pushed n count pushed) k [] (omega arith) ∙ ap Some (get_or-map-range_with_len (slot_pushed n pushed) 0 count k k [] l (omega arith))

area-slot : (n : ℕ) (pushed : ℕ → List Area) (k p : ℕ) → p < n → slice_get (slot_pushed n pushed k) p ≡ Some (get_or (pushed p) k no_area)
area-slot n pushed k p l =
    let area : ℕ → Area = λ q. get_or (pushed q) k no_area in
    let number : length (slot_pushed n pushed k) ≡ n = length-map-range_with_len area 0 n in
    slice_get-get_or (slot_pushed n pushed k) p no_area (omega arith) ∙ ap Some (get_or-map-range_with_len area 0 n p p no_area l (omega arith))

slot-named : (n count : ℕ) (pushed : ℕ → List Area) (k own start : ℕ) → k < count → own < n → is_slot_named (slots_pushed n count pushed) k own start [] ≡ (((get_or (pushed own) k no_area).start == start) && true)
slot-named n count pushed k own start l m =
    ap (λ o. has_start own start o && true) (slot-pushed n count pushed k l) ∙ ap (λ o. starts_at start o && true) (area-slot n pushed k own m)

starts : (a b : ℕ) → a ≡ b → ((a == b) && true) ≡ true
starts a b h = grind (arith, nat_tests)

starts_elsewhere : (a b : ℕ) → a ≢ b → ((a == b) && true) ≡ false
starts_elsewhere a b h = grind (arith, nat_tests)

newest-pushed : (n count : ℕ) (pushed : ℕ → List Area) (own start k m : ℕ) → own < n → m ≤ count → k < m → (get_or (pushed own) k no_area).start ≡ start
    → ((j : ℕ) → k < j → j < count → (get_or (pushed own) j no_area).start ≢ start) → newest_below (slots_pushed n count pushed) own start [] m ≡ Some k
newest-pushed n count pushed own start k zero known within l here others = absurd (omega arith)
newest-pushed n count pushed own start k (suc m) known within l here others =
    let slots = slots_pushed n count pushed in
    let named = slot-named n count pushed m own start (omega arith) known in
    elim (cases_lt k m) [
      | inl less ↦
          ap (λ b. cond b (Some m) (newest_below slots own start [] m)) (named ∙ starts_elsewhere (get_or (pushed own) m no_area).start start (others m less (omega arith)))
          ∙ newest-pushed n count pushed own start k m known (omega arith) less here others
      | inr more ↦
          let same : m ≡ k = omega arith in
          ap (λ b. cond b (Some m) (newest_below slots own start [] m)) (named ∙ starts (get_or (pushed own) m no_area).start start (ap (λ j. (get_or (pushed own) j no_area).start) same ∙ here))
          ∙ ap Some same
    ]

-- The area of a process in the slot that another names by its own area there: the last of its areas that starts so.
pub area-pushed : (v : ViewParts) (n count : ℕ) (pushed : ℕ → List Area) (k pid start : ℕ) → v.table ≡ slots_pushed n count pushed → v.pid < n → pid < n → k < count
    → (get_or (pushed v.pid) k no_area).start ≡ start → ((j : ℕ) → k < j → j < count → (get_or (pushed v.pid) j no_area).start ≢ start)
    → target_area v pid start ≡ Some (get_or (pushed pid) k no_area)
area-pushed v n count pushed k pid start table known target l here others =
    let slots = slots_pushed n count pushed in
    let number : length slots ≡ count = length-map-range_with_len (slot_pushed n pushed) 0 count in
    ap (λ (t : List (List Area)). area_at t (newest t v.pid start) pid) table
    ∙ ap (λ m. area_at slots (newest_below slots v.pid start [] m) pid) number
    ∙ ap (λ o. area_at slots o pid) (newest-pushed n count pushed v.pid start k count known (omega arith) l here others)
    ∙ ap (λ o. area_in o pid) (slot-pushed n count pushed k l)
    ∙ area-slot n pushed k pid target
