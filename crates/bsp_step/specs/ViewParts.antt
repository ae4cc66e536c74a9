-- What a process may see in a superstep.
use Rattle.std.specs.Prelude.{ℕ, List, ◌≤◌, ◌<◌, ◌+◌, ◌≡◌, length, All}
use Rattle.bsp_model.specs.Limits.{most_arguments, most_memory_words, most_messages, most_payload_words, most_processes, most_slots, most_supersteps, most_tag_words}
use Rattle.bsp_model.specs.declared.request.Message.{Message}
use Rattle.bsp_table.specs.declared.area.Area.{Area}

-- The eight parts of a view (Hill et al. 1998).
pub record ViewParts : Type 0 where
  pub nprocs : ℕ
  pub pid : ℕ
  pub step : ℕ
  pub args : List ℕ
  pub memory : List ℕ
  pub table : List (List Area)
  pub tag_size : ℕ
  pub queue : List Message

-- a message within the limits
pub record IsShortMessage (m : Message) : Type 0 where
  pub tag : length m.tag ≤ most_tag_words
  pub words : length m.words ≤ most_payload_words

-- a table within the limits, with an area for each process in each slot
pub record IsTableFor (nprocs : ℕ) (slots : List (List Area)) : Type 0 where
  pub few_slots : length slots ≤ most_slots
  pub full_slots : All (λ areas. length areas ≡ nprocs) slots
  pub inside : All (λ areas. All (λ a. a.start + a.len ≤ most_memory_words) areas) slots

-- a queue within the limits
pub record IsQueue (queue : List Message) : Type 0 where
  pub few : length queue ≤ most_messages
  pub short : All IsShortMessage queue

-- The limits that every view keeps (this profile).
pub record IsView (v : ViewParts) : Type 0 where
  pub pid_below : v.pid < v.nprocs
  pub few_processes : v.nprocs ≤ most_processes
  pub few_supersteps : v.step ≤ most_supersteps
  pub few_args : length v.args ≤ most_arguments
  pub short_memory : length v.memory ≤ most_memory_words
  pub small_tag : v.tag_size ≤ most_tag_words
  pub table : IsTableFor v.nprocs v.table
  pub queue : IsQueue v.queue
