-- What a process sees next depends on its delivery, its arguments, the table and the tag size alone.
use Rattle.std.proofs.Common.{◌≡◌, ◌<◌, ◌+◌, ℕ, Bool, true, false, List, [], length, get_or, inl, inr, replicate, arith, refl, sym, ap, ◌∙◌}
use Rattle.std.specs.Prelude.{nat_lt, not, ◌&&◌}
use Rattle.std.specs.Bool.{Decides}
use Rattle.std.proofs.lemmas.Bool.{cases_Bool, false≢true}
use Rattle.std.proofs.lemmas.List.FromFn.{fill_by_all, get_or-map-range_with_len}
use Rattle.std.proofs.lemmas.Bool.Decides.{nat_tests, Decides-and, Decides-ltb, Decides-like, same_from_decides}
use Rattle.bsp_model.specs.declared.input.Input.{Input}
use Rattle.bsp_step.specs.ViewParts.{ViewParts}
use Rattle.bsp_step.specs.OutcomeParts.{OutcomeParts}
use Rattle.bsp_deliver.specs.Delivery.{delivery_parts, next_memory, next_queue}
use Rattle.std.proofs.lemmas.List.{get_or-map, get_or-replicate, length-replicate}
use Rattle.bsp_deliver.specs.Requests.{each_below}
use Rattle.bsp_deliver.specs.Touched.{AreTouched}
use Rattle.bsp_run.specs.State.{State, no_messages, first_state, next_state, view_of}
use Rattle.bsp_run.specs.Law.{state_at, views_in, outcomes_in}
use Rattle.bsp_run.specs.Condition.{no_view}
use Rattle.bsp_run.proofs.Conditions.{view-views_of}
use Rattle.bsp_run.proofs.Records.{state_at-next, state_at-first, count-state_at, count-views_in, count-outcomes_in}
use Rattle.bsp_deliver.specs.Inside.SameDelivery.{same_delivery}
use Rattle.bsp_incr.specs.Inside.Changes.{is_touched}
use Rattle.bsp_incr.specs.Inside.Marks.{AreAlikeButForTable, HaveOneTable}
use Rattle.bsp_deliver.proofs.SameDelivery.{Decides-delivery}
use Rattle.bsp_model.proofs.Inputs.{not_false}

-- A delivery has to be made where the previous run has none to the process, or one that depends on something else.
pub Decides-untouched : (old new : List OutcomeParts) (d : ℕ) → Decides (nat_lt d (length old) && same_delivery (delivery_parts old d) (delivery_parts new d)) ((d < length old) × (delivery_parts old d ≡ delivery_parts new d))
Decides-untouched old new d =
    Decides-and (nat_lt d (length old)) (same_delivery (delivery_parts old d) (delivery_parts new d)) (Decides-ltb d (length old)) (Decides-delivery (delivery_parts old d) (delivery_parts new d))

pub untouched_is : (old new : List OutcomeParts) (d : ℕ) → is_touched old new d ≡ false → (d < length old) × (delivery_parts old d ≡ delivery_parts new d)
untouched_is old new d h =
    (Decides-untouched old new d).0 (not_false (nat_lt d (length old) && same_delivery (delivery_parts old d) (delivery_parts new d)) h)

-- the memory and the queue that are delivered
pub memory-next : (s : State) (os : List OutcomeParts) (d : ℕ) → d < length os → get_or (next_state s os).memories d [] ≡ next_memory (delivery_parts os d)
unfolding next_state
memory-next s os d l = get_or-map-range_with_len (λ d. next_memory (delivery_parts os d)) 0 (length os) d d [] l (omega arith)

pub queue-next : (s : State) (os : List OutcomeParts) (d : ℕ) → d < length os → get_or (next_state s os).queues d [] ≡ next_queue (delivery_parts os d)
unfolding next_state
queue-next s os d l = get_or-map-range_with_len (λ d. next_queue (delivery_parts os d)) 0 (length os) d d [] l (omega arith)

-- what process p sees in superstep s
pub view-in : (turn : ViewParts → OutcomeParts) (input : Input) (s p : ℕ) → p < length input.mems → get_or (views_in turn input s) p no_view ≡ view_of input.args s (state_at turn input s) p
view-in turn input s p l = view-views_of input.args s (state_at turn input s) p (omega (arith, count-state_at turn input s))

-- after a delivery it sees what was delivered
pub memory-in : (turn : ViewParts → OutcomeParts) (input : Input) (s d : ℕ) → d < length input.mems → (get_or (views_in turn input (s + 1)) d no_view).memory ≡ next_memory (delivery_parts (outcomes_in turn input s) d)
memory-in turn input s d l =
    ap (λ (v : ViewParts). v.memory) (view-in turn input (s + 1) d l) ∙ ap (λ (x : State). get_or x.memories d []) (state_at-next turn input s)
    ∙ memory-next (state_at turn input s) (outcomes_in turn input s) d (omega (arith, count-outcomes_in turn input s))

pub queue-in : (turn : ViewParts → OutcomeParts) (input : Input) (s d : ℕ) → d < length input.mems → (get_or (views_in turn input (s + 1)) d no_view).queue ≡ next_queue (delivery_parts (outcomes_in turn input s) d)
queue-in turn input s d l =
    ap (λ (v : ViewParts). v.queue) (view-in turn input (s + 1) d l) ∙ ap (λ (x : State). get_or x.queues d []) (state_at-next turn input s)
    ∙ queue-next (state_at turn input s) (outcomes_in turn input s) d (omega (arith, count-outcomes_in turn input s))

-- Where the delivery to d depends on the same in both runs, and its arguments are equal, its next views are, the table and the tag size aside.
pub propagated : (turn : ViewParts → OutcomeParts) (i j : Input) (s d : ℕ) → length i.mems ≡ length j.mems → d < length j.mems → get_or i.args d [] ≡ get_or j.args d [] → delivery_parts (outcomes_in turn i s) d ≡ delivery_parts (outcomes_in turn j s) d
    → AreAlikeButForTable (get_or (views_in turn i (s + 1)) d no_view) (get_or (views_in turn j (s + 1)) d no_view)
propagated turn i j s d many l same e =
    let before : d < length i.mems = omega arith in
    let v = view-in turn i (s + 1) d before in
    let w = view-in turn j (s + 1) d l in
    record {
      nprocs = ap (λ (x : ViewParts). x.nprocs) v ∙ count-state_at turn i (s + 1) ∙ many ∙ sym (count-state_at turn j (s + 1)) ∙ sym (ap (λ (x : ViewParts). x.nprocs) w);
      pid = ap (λ (x : ViewParts). x.pid) v ∙ sym (ap (λ (x : ViewParts). x.pid) w);
      step = ap (λ (x : ViewParts). x.step) v ∙ sym (ap (λ (x : ViewParts). x.step) w);
      args = ap (λ (x : ViewParts). x.args) v ∙ same ∙ sym (ap (λ (x : ViewParts). x.args) w);
      memory = memory-in turn i s d before ∙ ap next_memory e ∙ sym (memory-in turn j s d l);
      queue = queue-in turn i s d before ∙ ap next_queue e ∙ sym (queue-in turn j s d l);
    }

pub first_memory : (turn : ViewParts → OutcomeParts) (input : Input) (p : ℕ) → get_or (state_at turn input 0).memories p [] ≡ get_or input.mems p []
unfolding first_state
first_memory turn input p = ap (λ (s : State). get_or s.memories p []) (state_at-first turn input)

first_queue : (turn : ViewParts → OutcomeParts) (input : Input) (p : ℕ) → p < length input.mems → get_or (state_at turn input 0).queues p [] ≡ []
unfolding first_state
first_queue turn input p l = ap (λ (s : State). get_or s.queues p []) (state_at-first turn input) ∙ get_or-map no_messages input.mems p [] [] l

-- In superstep 0 a process sees its memory and its arguments.
pub first_alike : (turn : ViewParts → OutcomeParts) (i j : Input) (p : ℕ) → length i.mems ≡ length j.mems → p < length j.mems → get_or i.args p [] ≡ get_or j.args p [] → get_or i.mems p [] ≡ get_or j.mems p []
    → AreAlikeButForTable (get_or (views_in turn i 0) p no_view) (get_or (views_in turn j 0) p no_view)
first_alike turn i j p many l same e =
    let before : p < length i.mems = omega arith in
    let v = view-in turn i 0 p before in
    let w = view-in turn j 0 p l in
    record {
      nprocs = ap (λ (x : ViewParts). x.nprocs) v ∙ count-state_at turn i 0 ∙ many ∙ sym (count-state_at turn j 0) ∙ sym (ap (λ (x : ViewParts). x.nprocs) w);
      pid = ap (λ (x : ViewParts). x.pid) v ∙ sym (ap (λ (x : ViewParts). x.pid) w);
      step = ap (λ (x : ViewParts). x.step) v ∙ sym (ap (λ (x : ViewParts). x.step) w);
      args = ap (λ (x : ViewParts). x.args) v ∙ same ∙ sym (ap (λ (x : ViewParts). x.args) w);
      memory = ap (λ (x : ViewParts). x.memory) v ∙ first_memory turn i p ∙ e ∙ sym (first_memory turn j p) ∙ sym (ap (λ (x : ViewParts). x.memory) w);
      queue = ap (λ (x : ViewParts). x.queue) v ∙ first_queue turn i p before ∙ sym (first_queue turn j p l) ∙ sym (ap (λ (x : ViewParts). x.queue) w);
    }

-- the processes of a superstep see one table
pub one_table : (turn : ViewParts → OutcomeParts) (input : Input) (s : ℕ) → HaveOneTable (views_in turn input s)
one_table turn input s =
    let at = λ (p : ℕ) (l : p < length input.mems). view-in turn input s p l in
    let many = count-views_in turn input s in
    record {
      table = λ p l. ap (λ (v : ViewParts). v.table) (at p (omega arith)) ∙ sym (ap (λ (v : ViewParts). v.table) (at 0 (omega arith)));
      tag_size = λ p l. ap (λ (v : ViewParts). v.tag_size) (at p (omega arith)) ∙ sym (ap (λ (v : ViewParts). v.tag_size) (at 0 (omega arith)));
    }

-- Views that are alike but for the table, with equal tables and tag sizes, are equal.
pub same_view : (v w : ViewParts) → AreAlikeButForTable v w → v.table ≡ w.table → v.tag_size ≡ w.tag_size → v ≡ w
same_view v w h table tag =
    λ i. record { nprocs = h.nprocs i; pid = h.pid i; step = h.step i; args = h.args i; memory = h.memory i; table = table i; tag_size = tag i; queue = h.queue i }

-- where the previous run has a delivery to the process, that is whether it depends on something else
touched_from_decides : (old new : List OutcomeParts) (d : ℕ) (same : Bool) → d < length old → Decides same (delivery_parts old d ≡ delivery_parts new d) → not same ≡ is_touched old new d
touched_from_decides old new d same l h =
    ap not
    (same_from_decides same (nat_lt d (length old) && same_delivery (delivery_parts old d) (delivery_parts new d))
    (Decides-like same (λ (e : delivery_parts old d ≡ delivery_parts new d). (l, e)) (λ (e : (d < length old) × (delivery_parts old d ≡ delivery_parts new d)). e.1) h)
    (Decides-untouched old new d))

-- where each process had a delivery before, a mark says whether it is touched
mark_is : (old new : List OutcomeParts) (marks : List Bool) (d : ℕ) → length old ≡ length new → AreTouched old new marks → d < length new → get_or marks d true ≡ is_touched old new d
mark_is old new marks d long h l =
    elim (cases_Bool (get_or marks d true)) [
      | inl t ↦ t ∙ touched_from_decides old new d false (omega (arith, l, long)) (λ no. absurd (false≢true no), λ same. absurd (false≢true (sym ((h.each d l).1 same) ∙ t)))
      | inr f ↦ f ∙ touched_from_decides old new d true (omega (arith, l, long)) (λ yes. (h.each d l).0 f, λ same. refl)
    ]

pub touched_are : (old new : List OutcomeParts) (marks : List Bool) → length old ≡ length new → AreTouched old new marks → marks ≡ each_below (length new) (is_touched old new)
touched_are old new marks long h = fill_by_all (is_touched old new) marks (length new) true h.count (λ d l. mark_is old new marks d long h l)

-- where the previous run has no delivery, each has to be made
pub touched-none : (new : List OutcomeParts) (d : ℕ) → is_touched [] new d ≡ true
touched-none new d = let none : nat_lt d 0 ≡ false = grind (arith, nat_tests) in ap (λ b. not (b && same_delivery (delivery_parts [] d) (delivery_parts new d))) none

pub all_touched : (new : List OutcomeParts) → replicate (length new) true ≡ each_below (length new) (is_touched [] new)
all_touched new =
    let n = length new in
    fill_by_all (is_touched [] new) (replicate n true) n true (length-replicate n true) (λ p l. get_or-replicate n p true true l ∙ sym (touched-none new p))
