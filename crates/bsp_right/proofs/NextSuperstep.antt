-- From a described state to the next, or to the end of the run.
use Rattle.std.proofs.Common.{◌+◌, ◌++◌, ◌<◌, ◌==◌, List, None, Option, Some, [], ap, arith, filter, get_or, length, map, refl, subst, suc, zero, ℕ, ◌∙◌, ◌≡◌, ◌≤◌}
use Rattle.std.proofs.lemmas.List.FromFn.{fill_by_all, get_or-map-range_with_len, length-map-range_with_len}
use Rattle.std.specs.List.{range_with_len}
use Rattle.std.specs.Prelude.{unwrap_or}
use Rattle.bsp_model.specs.Limits.{most_slots}
use Rattle.bsp_model.specs.declared.input.Input.{Input}
use Rattle.bsp_model.specs.declared.request.Message.{Message}
use Rattle.bsp_model.specs.declared.request.Send.{Send}
use Rattle.bsp_table.specs.declared.area.Area.{Area}
use Rattle.bsp_table.specs.NextTable.{next_table}
use Rattle.bsp_step.specs.OutcomeParts.{OutcomeParts}
use Rattle.bsp_step.specs.ViewParts.{ViewParts}
use Rattle.bsp_deliver.specs.Requests.{all_sends, each_below, requests_from}
use Rattle.bsp_deliver.specs.Delivery.{delivery_parts, message_of, next_memory, next_queue}
use Rattle.bsp_deliver.specs.SyncFault.{next_tag_size}
use Rattle.bsp_run.specs.declared.result.Status.TheVariants.{Halted}
use Rattle.bsp_run.specs.Law.{end_in, outcomes_in, state_at}
use Rattle.bsp_run.specs.Ending.{end_of}
use Rattle.bsp_run.specs.State.{first_state, next_state, no_messages, pops_of, pushes_of, view_of, views_of}
use Rattle.bsp_run.proofs.Records.{state_at-next}
use Rattle.bsp_right.proofs.SuperstepEnds.{AllHalt, AllSync, AllSync-with, AllSyncWith, end_of-halts, end_of-syncs, next_table-syncs, slots_left, slots_left-all, slots_pushed}
use Rattle.bsp_right.proofs.DescribedStates.{described, no_queue, quiet, view_described}
use Rattle.bsp_right.proofs.Ranges.{map_range-agree, range-agree}

view-described : (args : List (List ℕ)) (step n : ℕ) (memory : ℕ → List ℕ) (queue : ℕ → List Message) (table : List (List Area)) (tag p : ℕ) → p < n
    → view_of args step (described n memory queue table tag) p ≡ view_described args step n memory queue table tag p
view-described args step n memory queue table tag p l =
    let count : length (each_below n memory) ≡ n = length-map-range_with_len memory 0 n in
    let own : get_or (each_below n memory) p [] ≡ memory p = get_or-map-range_with_len memory 0 n p p [] l (omega arith) in
    let messages : get_or (each_below n queue) p [] ≡ queue p = get_or-map-range_with_len queue 0 n p p [] l (omega arith) in
    λ i. record { nprocs = count i; pid = p; step = step; args = get_or args p []; memory = own i; table = table; tag_size = tag; queue = messages i }

-- The outcomes of a described state, turn by turn.
pub outcomes-described : (turn : ViewParts → OutcomeParts) (input : Input) (s n : ℕ) (memory : ℕ → List ℕ) (queue : ℕ → List Message) (table : List (List Area)) (tag : ℕ) (out : ℕ → OutcomeParts)
    → state_at turn input s ≡ described n memory queue table tag → ((p : ℕ) → p < n → turn (view_described input.args s n memory queue table tag p) ≡ out p)
    → outcomes_in turn input s ≡ each_below n out
unfolding views_of
outcomes-described turn input s n memory queue table tag out is turns =
    let state = described n memory queue table tag in
    ap (λ st. map turn (views_of input.args s st)) is
    ∙ ap (λ count. map turn (map (view_of input.args s state) (range_with_len 0 count))) (length-map-range_with_len memory 0 n)
    ∙ map_range-agree turn (view_of input.args s state) out n 0 (λ p l m. let b : p < n = omega arith in ap turn (view-described input.args s n memory queue table tag p b) ∙ turns p b)

no_sends : (n k : ℕ) (out : ℕ → OutcomeParts) → ((p : ℕ) → k ≤ p → p < k + n → (out p).sends ≡ []) → requests_from (λ o. o.sends) k (map out (range_with_len k n)) ≡ []
no_sends zero k out h = refl
no_sends (suc n) k out h =
    ap (λ (ms : List Send). map (λ (r : Send). (k, r)) ms ++ requests_from (λ o. o.sends) (k + 1) (map out (range_with_len (k + 1) n))) (h k (omega arith) (omega arith))
    ∙ no_sends n (k + 1) out (λ p l m. h p (omega arith) (omega arith))

-- without messages the queues are empty
pub next_queue-none : (n d : ℕ) (out : ℕ → OutcomeParts) → ((p : ℕ) → p < n → (out p).sends ≡ []) → next_queue (delivery_parts (each_below n out) d) ≡ []
unfolding next_queue delivery_parts all_sends
next_queue-none n d out h = ap (λ (ms : List (ℕ × Send)). map (λ (m : ℕ × Send). message_of m.1) (filter (λ (m : ℕ × Send). m.1.target == d) ms)) (no_sends n 0 out (λ p l m. h p (omega arith)))

next_tag-chosen : (n tag : ℕ) (chosen : Option ℕ) (out : ℕ → OutcomeParts) → 1 ≤ n → (out 0).tag ≡ chosen → next_tag_size tag (each_below n out) ≡ unwrap_or chosen tag
next_tag-chosen zero tag chosen out l h = absurd (omega arith)
next_tag-chosen (suc n) tag chosen out l h = ap (λ o. unwrap_or o tag) h

-- one slot for each of these areas, which all processes push
abbrev pub slots_of : ℕ → List Area → List (List Area)
slots_of n pushed = slots_pushed n (length pushed) (λ p. pushed)

-- A superstep of a described state, whose turns are described, ends by delivery, and the next state is described.
pub record GoesOnWith (turn : ViewParts → OutcomeParts) (input : Input) (s n : ℕ) (memory : ℕ → List ℕ) (queue : ℕ → List Message) (table : List (List Area)) (tag : ℕ) (out : ℕ → OutcomeParts) : Type 0 where
  pub end : end_in turn input s ≡ None
  pub outcomes : outcomes_in turn input s ≡ each_below n out
  pub state : state_at turn input (s + 1) ≡ described n memory queue table tag

-- It has no messages.
abbrev pub GoesOn : (ViewParts → OutcomeParts) → Input → ℕ → ℕ → (ℕ → List ℕ) → List (List Area) → ℕ → (ℕ → OutcomeParts) → Type 0
GoesOn turn input s n memory table tag out = GoesOnWith turn input s n memory no_queue table tag out

pub goes_on_with : (turn : ViewParts → OutcomeParts) (input : Input) (s n : ℕ) (memory new : ℕ → List ℕ) (queue next : ℕ → List Message) (table : List (List Area)) (tag : ℕ) (popped : List ℕ) (count : ℕ) (pushed : ℕ → List Area) (chosen : Option ℕ) (out : ℕ → OutcomeParts)
    → state_at turn input s ≡ described n memory queue table tag
    → ((p : ℕ) → p < n → turn (view_described input.args s n memory queue table tag p) ≡ out p)
    → AllSyncWith n popped count pushed chosen out → length (slots_left table popped) + count ≤ most_slots
    → ((d : ℕ) → d < n → next_queue (delivery_parts (each_below n out) d) ≡ next d)
    → ((d : ℕ) → d < n → next_memory (delivery_parts (each_below n out) d) ≡ new d)
    → GoesOnWith turn input s n new next (slots_left table popped ++ slots_pushed n count pushed) (unwrap_or chosen tag) out
unfolding next_state
goes_on_with turn input s n memory new queue next table tag popped count pushed chosen out is turns syncs few messages memories =
    let os = each_below n out in
    let outcomes : outcomes_in turn input s ≡ os = outcomes-described turn input s n memory queue table tag out is turns in
    let number : length os ≡ n = length-map-range_with_len out 0 n in
    let after : next_state (described n memory queue table tag) os ≡ described n new next (slots_left table popped ++ slots_pushed n count pushed) (unwrap_or chosen tag) =
    let mems : each_below (length os) (λ d. next_memory (delivery_parts os d)) ≡ each_below n new = ap (λ k. each_below k (λ d. next_memory (delivery_parts os d))) number ∙ range-agree (λ d. next_memory (delivery_parts os d)) new n 0 (λ d l m. memories d (omega arith)) in
    let queues : each_below (length os) (λ d. next_queue (delivery_parts os d)) ≡ each_below n next = ap (λ k. each_below k (λ d. next_queue (delivery_parts os d))) number ∙ range-agree (λ d. next_queue (delivery_parts os d)) next n 0 (λ d l m. messages d (omega arith)) in
    let slots : next_table table (pops_of os) (pushes_of os) ≡ slots_left table popped ++ slots_pushed n count pushed = next_table-syncs n table popped count pushed out syncs in
    let tags : next_tag_size tag os ≡ unwrap_or chosen tag = next_tag-chosen n tag chosen out syncs.some (syncs.tags 0 (omega (arith, syncs.some))) in
    λ i. record { memories = mems i; queues = queues i; table = slots i; tag_size = tags i }
    in
    record {
      end = (λ i. end_of s (is i).table (outcomes i)) ∙ end_of-syncs n s table popped count pushed out syncs few;
      outcomes = outcomes;
      state = state_at-next turn input s ∙ (λ i. next_state (is i) (outcomes i)) ∙ after;
    }

-- Where nothing is sent or popped, and no tag size chosen.
pub goes_on : (turn : ViewParts → OutcomeParts) (input : Input) (s n : ℕ) (memory new : ℕ → List ℕ) (queue : ℕ → List Message) (table : List (List Area)) (tag : ℕ) (pushed : List Area) (out : ℕ → OutcomeParts)
    → state_at turn input s ≡ described n memory queue table tag
    → ((p : ℕ) → p < n → turn (view_described input.args s n memory queue table tag p) ≡ out p)
    → AllSync n pushed out → length table + length pushed ≤ most_slots → ((p : ℕ) → p < n → (out p).sends ≡ [])
    → ((d : ℕ) → d < n → next_memory (delivery_parts (each_below n out) d) ≡ new d)
    → GoesOn turn input s n new (table ++ slots_of n pushed) tag out
goes_on turn input s n memory new queue table tag pushed out is turns syncs few quiet memories =
    let all : slots_left table [] ≡ table = slots_left-all table in
    let same : length (slots_left table []) ≡ length table = ap (λ (xs : List (List Area)). length xs) all in
    subst (λ slots. GoesOn turn input s n new (slots ++ slots_of n pushed) tag out) all
    (goes_on_with turn input s n memory new queue no_queue table tag [] (length pushed) (λ p. pushed) None out is turns (AllSync-with n pushed out syncs) (omega arith) (λ d l. next_queue-none n d out quiet) memories)

-- A superstep of a described state, whose turns all halt, ends the run.
pub record Halts (turn : ViewParts → OutcomeParts) (input : Input) (s n : ℕ) (out : ℕ → OutcomeParts) : Type 0 where
  pub end : end_in turn input s ≡ Some Halted
  pub outcomes : outcomes_in turn input s ≡ each_below n out

pub halts : (turn : ViewParts → OutcomeParts) (input : Input) (s n : ℕ) (memory : ℕ → List ℕ) (queue : ℕ → List Message) (table : List (List Area)) (tag : ℕ) (out : ℕ → OutcomeParts)
    → state_at turn input s ≡ described n memory queue table tag
    → ((p : ℕ) → p < n → turn (view_described input.args s n memory queue table tag p) ≡ out p)
    → AllHalt n out → Halts turn input s n out
halts turn input s n memory queue table tag out is turns all =
    let outcomes : outcomes_in turn input s ≡ each_below n out = outcomes-described turn input s n memory queue table tag out is turns in
    record { end = (λ i. end_of s (is i).table (outcomes i)) ∙ end_of-halts n s table out all; outcomes = outcomes }

-- The first state is described.
pub first-described : (turn : ViewParts → OutcomeParts) (input : Input) → state_at turn input 0 ≡ described (length input.mems) (λ p. get_or input.mems p []) no_queue [] 0
unfolding state_at first_state
first-described turn input =
    let n = length input.mems in
    let mems : input.mems ≡ each_below n (λ p. get_or input.mems p []) = fill_by_all (λ p. get_or input.mems p []) input.mems n [] refl (λ k l. refl) in
    let queues : map no_messages input.mems ≡ each_below n no_queue = ap (map no_messages) mems ∙ map_range-agree no_messages (λ p. get_or input.mems p []) no_queue n 0 (λ p l m. refl) in
    λ i. record { memories = mems i; queues = queues i; table = []; tag_size = 0 }
