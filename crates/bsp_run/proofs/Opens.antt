-- Opening a superstep keeps what a run keeps.
use Rattle.std.proofs.Common.{◌≡◌, ◌≤◌, ◌<◌, ◌+◌, ℕ, List, [], map, length, All, arith, get_or, refl, sym, ap, ◌∙◌, subst}
use Rattle.std.specs.List.{range_with_len}
use Rattle.std.proofs.Math.ListN.{get_or-map}
use Rattle.std.proofs.lemmas.List.{length-map}
use Rattle.std.proofs.lemmas.List.Elements.{All-map, All-nil}
use Rattle.std.proofs.lemmas.List.FromFn.{fill_by_all}
use Rattle.bsp_model.specs.Limits.{most_arguments, most_memory_words, most_supersteps}
use Rattle.bsp_model.specs.declared.input.Input.{Input}
use Rattle.bsp_model.specs.declared.request.Message.{Message}
use Rattle.bsp_model.specs.Inside.LawfulInput.{IsLawfulInput}
use Rattle.bsp_table.specs.declared.area.Area.{Area}
use Rattle.bsp_table.specs.NextTable.{IsSlotInside}
use Rattle.bsp_step.specs.ViewParts.{ViewParts, IsQueue, IsTableFor, IsShortMessage}
use Rattle.bsp_deliver.specs.Condition.{AreDeliverable}
use Rattle.bsp_run.specs.declared.setting.Setting.{Setting}
use Rattle.bsp_run.specs.declared.superstep.Superstep.{Superstep}
use Rattle.bsp_run.specs.State.{State, cell_of, first_cell, first_state, no_messages, view_of, views_of}
use Rattle.bsp_run.specs.declared.phase.Phase.{Phase}
use Rattle.bsp_run.specs.declared.phase.Phase.TheVariants.{Open, Turned, Ended}
use Rattle.bsp_run.specs.declared.result.Status.TheVariants.{Halted, Limit, Faulted, SyncFaulted}
use Rattle.bsp_run.specs.Run.{Run, start, open_views}
use Rattle.bsp_run.specs.Inside.Opening.{CanOpen, state_of}
use Rattle.bsp_run.specs.Condition.{IsState, IsRun, IsInPhase}
use Rattle.bsp_run.proofs.Lists.{map_agree, map_same}
use Rattle.bsp_deliver.proofs.Senders.{map_twice}

-- the first cells of all processes, by number
pub first_cells : (seen mems : List (List ℕ)) (ps : List ℕ) (cells : List (List ℕ × List Message)) → seen ≡ mems → ps ≡ range_with_len 0 (length mems) → cells ≡ map (first_cell seen) ps → cells ≡ map (λ m. (m, no_messages m)) mems
first_cells seen mems ps cells same all are =
    let cell : List ℕ → List ℕ × List Message = λ m. (m, no_messages m) in
    are
    ∙ (λ i. map (first_cell (same i)) (all i))
    ∙ sym (fill_by_all (first_cell mems) (map cell mems) (length mems) ([], []) (length-map mems cell) (λ p l. get_or-map cell mems p []))

-- the state that views were made of
abbrev pub state_seen : List ViewParts → List (List Area) → ℕ → State
state_seen vs table tag = record { memories = map (λ (v : ViewParts). v.memory) vs; queues = map (λ (v : ViewParts). v.queue) vs; table = table; tag_size = tag }

-- what is read off each view is what it was made of
pub part_of_views : {X : Type 0} (of : ViewParts → X) (args : List (List ℕ)) (step : ℕ) (s : State) (xs : List X) (d : X) → length xs ≡ length s.memories → ((p : ℕ) → of (view_of args step s p) ≡ get_or xs p d) → map of (views_of args step s) ≡ xs
unfolding views_of
part_of_views of args step s xs d long each =
    sym (map_twice of (view_of args step s) (range_with_len 0 (length s.memories)))
    ∙ map_agree (λ p. of (view_of args step s p)) (λ p. get_or xs p d) each (range_with_len 0 (length s.memories))
    ∙ sym (fill_by_all (λ p. get_or xs p d) xs (length s.memories) d long (λ k l. refl))

pub state_seen-views_of : (args : List (List ℕ)) (step : ℕ) (s : State) → length s.queues ≡ length s.memories → state_seen (views_of args step s) s.table s.tag_size ≡ s
state_seen-views_of args step s same =
    let memories = part_of_views (λ (v : ViewParts). v.memory) args step s s.memories [] refl (λ p. refl) in
    let queues = part_of_views (λ (v : ViewParts). v.queue) args step s s.queues [] same (λ p. refl) in
    λ i. record { memories = memories i; queues = queues i; table = s.table; tag_size = s.tag_size }

cell_parts : (cells : List (List ℕ × List Message)) (p : ℕ) → (get_or (map (λ (c : List ℕ × List Message). c.0) cells) p [], get_or (map (λ (c : List ℕ × List Message). c.1) cells) p []) ≡ get_or cells p ([], [])
cell_parts cells p = λ i. (get_or-map (λ (c : List ℕ × List Message). c.0) cells p ([], []) i, get_or-map (λ (c : List ℕ × List Message). c.1) cells p ([], []) i)

-- the cells that views were made of
pub cells_seen : (args : List (List ℕ)) (step : ℕ) (cells : List (List ℕ × List Message)) (table : List (List Area)) (tag : ℕ) → map cell_of (views_of args step (state_of cells table tag)) ≡ cells
cells_seen args step cells table tag = part_of_views cell_of args step (state_of cells table tag) cells ([], []) (sym (length-map cells (λ (c : List ℕ × List Message). c.0))) (cell_parts cells)

-- the first cells make the first state
pub first_state-cells : (input : Input) → state_of (map (λ m. (m, no_messages m)) input.mems) [] 0 ≡ first_state input
unfolding first_state
first_state-cells input =
    let memories = sym (map_twice (λ (c : List ℕ × List Message). c.0) (λ (m : List ℕ). (m, no_messages m)) input.mems) ∙ map_same input.mems in
    let queues = sym (map_twice (λ (c : List ℕ × List Message). c.1) (λ (m : List ℕ). (m, no_messages m)) input.mems) in
    λ i. record { memories = memories i; queues = queues i; table = []; tag_size = 0 }

empty_queue : IsQueue []
empty_queue = record { few = omega arith; short = All-nil IsShortMessage }

empty_table : (n : ℕ) → IsTableFor n []
empty_table n = record { few_slots = omega arith; full_slots = All-nil (λ (areas : List Area). length areas ≡ n); inside = All-nil (λ (areas : List Area). All (λ a. a.start + a.len ≤ most_memory_words) areas) }

pub first_state_within : (input : Input) → IsLawfulInput input → IsState (first_state input)
unfolding first_state
first_state_within input h =
    record {
      some = h.some_process;
      few = h.few_processes;
      short_memories = h.short_memories;
      same_count = length-map input.mems no_messages;
      queues = All-map IsQueue no_messages input.mems (λ k d l. empty_queue);
      table = empty_table (length input.mems);
      inside = All-nil (IsSlotInside (map (λ (m : List ℕ). length m) input.mems));
      small_tag = omega arith;
    }

past_in : (phase : Phase) (r : Run) → IsInPhase phase r → length r.past ≤ r.limit
past_in Open r h = let room : length r.past < r.limit = h.room in omega arith
past_in Turned r h = let room : length r.past < r.limit = h.room in omega arith
past_in (Ended Limit) r h = let full : length r.past ≡ r.limit = h.full in omega arith
past_in (Ended Halted) r h = let room : length r.past < r.limit = h.room in omega arith
past_in (Ended (Faulted step faults)) r h = let room : length r.past < r.limit = h.room in omega arith
past_in (Ended (SyncFaulted step fault)) r h = let room : length r.past < r.limit = h.room in omega arith

-- the superstep behind those of the past has a number within the limits
pub past_within : (r : Run) → IsRun r → length r.past ≤ most_supersteps
past_within r h =
    let within = past_in r.phase r h.phase in
    let few : r.limit ≤ most_supersteps = h.few_supersteps in
    omega (arith, within)

pub can_open : (args : List (List ℕ)) (step : ℕ) (s : State) → step ≤ most_supersteps → IsState s → length args ≡ length s.memories → All (λ a. length a ≤ most_arguments) args → CanOpen args step s
can_open args step s few h same short =
    record { few_supersteps = few; few = h.few; same_args = same; short_args = short; short_memories = h.short_memories; queues = h.queues; table = h.table; small_tag = h.small_tag }

pub start_is_run : (input : Input) → IsLawfulInput input → IsRun (start input)
unfolding start first_state
start_is_run input h =
    record {
      same_args = h.same_count;
      short_args = h.short_arguments;
      few_supersteps = h.few_supersteps;
      small_g = h.small_g;
      small_l = h.small_l;
      past = All-nil (λ (s : Superstep). AreDeliverable s.outcomes);
      state = first_state_within input h;
      phase = record { room = h.some_superstep; outcomes = refl };
    }

-- a state that was made of cells, and read off its views again
pub reopened : (args : List (List ℕ)) (step : ℕ) (s : State) (vs : List ViewParts) → vs ≡ views_of args step s → length s.queues ≡ length s.memories → state_seen vs s.table s.tag_size ≡ s
reopened args step s vs e same = ap (λ ws. state_seen ws s.table s.tag_size) e ∙ state_seen-views_of args step s same

first_length : (input : Input) → length (first_state input).memories ≡ length input.mems
unfolding first_state
first_length input = refl

-- what all processes see alike in superstep 0
abbrev pub first_setting : Input → Setting
first_setting input = record { step = 0; args = input.args; table = []; tag_size = 0 }

first_is : (input : Input) (setting : Setting) (cells : List (List ℕ × List Message)) → setting ≡ first_setting input → cells ≡ map (λ m. (m, no_messages m)) input.mems → state_of cells setting.table setting.tag_size ≡ first_state input
first_is input setting cells known made =
    ap (λ (s : Setting). state_of cells s.table s.tag_size) known ∙ ap (λ xs. state_of xs [] 0) made ∙ first_state-cells input

-- the first cells may be opened ..
pub opens_first : (input : Input) (setting : Setting) (cells : List (List ℕ × List Message)) → IsLawfulInput input → setting ≡ first_setting input → cells ≡ map (λ m. (m, no_messages m)) input.mems → CanOpen setting.args setting.step (state_of cells setting.table setting.tag_size)
opens_first input setting cells h known made =
    subst (CanOpen setting.args setting.step) (sym (first_is input setting cells known made))
    (subst (λ (s : Setting). CanOpen s.args s.step (first_state input)) (sym known)
    (can_open input.args 0 (first_state input) (omega arith) (first_state_within input h) (h.same_count ∙ sym (first_length input)) h.short_arguments))

pub started : (input : Input) → open_views (start input) ≡ views_of input.args 0 (first_state input)
unfolding start
started input = refl

-- .. and make the first views
pub views_first : (input : Input) (setting : Setting) (cells : List (List ℕ × List Message)) → setting ≡ first_setting input → cells ≡ map (λ m. (m, no_messages m)) input.mems
    → views_of setting.args setting.step (state_of cells setting.table setting.tag_size) ≡ open_views (start input)
views_first input setting cells known made =
    ap (λ (s : Setting). views_of s.args s.step (state_of cells setting.table setting.tag_size)) known ∙ ap (views_of input.args 0) (first_is input setting cells known made) ∙ sym (started input)
