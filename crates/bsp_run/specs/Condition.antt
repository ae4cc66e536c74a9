-- What a run keeps, and what its calls ask.
use Rattle.std.specs.Prelude.{◌≡◌, ◌≤◌, ◌<◌, ℕ, None, Some, Bool, true, false, List, [], map, length, All, slice_index_or}
use Rattle.bsp_model.specs.Limits.{highest_price, most_arguments, most_memory_words, most_processes, most_supersteps, most_tag_words}
use Rattle.bsp_model.specs.declared.request.Message.{Message}
use Rattle.bsp_table.specs.NextTable.{AreSlotsInside}
use Rattle.bsp_step.specs.ViewParts.{ViewParts, IsQueue, IsTableFor}
use Rattle.bsp_step.specs.OutcomeParts.{OutcomeParts, IsOutcome, IsOutcomeOf, no_outcome}
use Rattle.bsp_deliver.specs.Requests.{each_below}
use Rattle.bsp_deliver.specs.Delivery.{delivery_parts, next_memory, next_queue}
use Rattle.bsp_deliver.specs.Condition.{AreDeliverable}
use Rattle.bsp_run.specs.declared.result.Status.{Status}
use Rattle.bsp_run.specs.declared.result.Status.TheVariants.{Halted, Limit, Faulted, SyncFaulted}
use Rattle.bsp_run.specs.declared.phase.Phase.{Phase}
use Rattle.bsp_run.specs.declared.phase.Phase.TheVariants.{Open, Turned, Ended}
use Rattle.bsp_run.specs.State.{State}
use Rattle.bsp_run.specs.Ending.{end_of}
use Rattle.bsp_run.specs.Run.{Run, open_views}

-- the view of a process that there is not
abbrev pub no_view : ViewParts
no_view = record { nprocs = 0; pid = 0; step = 0; args = []; memory = []; table = []; tag_size = 0; queue = [] }

-- One outcome for each view, by process, each within the limits, of the view's memory length, and with requests inside the view's areas.
pub record AreOutcomesOf (vs : List ViewParts) (os : List OutcomeParts) : Type 0 where
  pub count : length os ≡ length vs
  pub limits : All IsOutcome os
  pub each : (p : ℕ) → p < length vs → IsOutcomeOf (slice_index_or vs p no_view) (slice_index_or os p no_outcome)

-- The next memory and queue of each process.
unfoldable pub deliveries_of : List OutcomeParts → List (List ℕ × List Message)
deliveries_of os = each_below (length os) (λ d. (next_memory (delivery_parts os d), next_queue (delivery_parts os d)))

-- A state within the limits, whose areas lie inside its memories.
pub record IsState (s : State) : Type 0 where
  pub some : 1 ≤ length s.memories
  pub few : length s.memories ≤ most_processes
  pub short_memories : All (λ m. length m ≤ most_memory_words) s.memories
  pub same_count : length s.queues ≡ length s.memories
  pub queues : All IsQueue s.queues
  pub table : IsTableFor (length s.memories) s.table
  pub inside : AreSlotsInside (map (λ m. length m) s.memories) s.table
  pub small_tag : s.tag_size ≤ most_tag_words

-- What holds of a superstep that ended the run so.
pub record IsEnd (r : Run) (status : Status) : Type 0 where
  pub room : length r.past < r.limit
  pub turns : AreOutcomesOf (open_views r) r.outcomes
  pub end : end_of (length r.past) r.state.table r.outcomes ≡ Some status

-- What holds before the turns, between them and the deliveries, and after the end.
pub record IsOpen (r : Run) : Type 0 where
  pub room : length r.past < r.limit
  pub outcomes : r.outcomes ≡ []

pub record IsTurned (r : Run) : Type 0 where
  pub room : length r.past < r.limit
  pub turns : AreOutcomesOf (open_views r) r.outcomes
  pub delivers : end_of (length r.past) r.state.table r.outcomes ≡ None

pub record IsAtLimit (r : Run) : Type 0 where
  pub full : length r.past ≡ r.limit
  pub outcomes : r.outcomes ≡ []

abbrev pub IsInPhase : Phase → Run → Type 0
IsInPhase Open r = IsOpen r
IsInPhase Turned r = IsTurned r
IsInPhase (Ended Limit) r = IsAtLimit r
IsInPhase (Ended Halted) r = IsEnd r Halted
IsInPhase (Ended (Faulted step faults)) r = IsEnd r (Faulted step faults)
IsInPhase (Ended (SyncFaulted step fault)) r = IsEnd r (SyncFaulted step fault)

-- What every run keeps (this profile).
pub record IsRun (r : Run) : Type 0 where
  pub same_args : length r.args ≡ length r.state.memories
  pub short_args : All (λ a. length a ≤ most_arguments) r.args
  pub few_supersteps : r.limit ≤ most_supersteps
  pub small_g : r.g ≤ highest_price
  pub small_l : r.l ≤ highest_price
  pub past : All (λ s. AreDeliverable s.outcomes) r.past
  pub state : IsState r.state
  pub phase : IsInPhase r.phase r

-- the superstep ends by delivery
abbrev pub is_turned : Phase → Bool
is_turned Open = false
is_turned Turned = true
is_turned (Ended status) = false

-- the next superstep is open
abbrev pub is_open : Phase → Bool
is_open Open = true
is_open Turned = false
is_open (Ended status) = false

-- the run has ended
abbrev pub is_ended : Phase → Bool
is_ended Open = false
is_ended Turned = false
is_ended (Ended status) = true
