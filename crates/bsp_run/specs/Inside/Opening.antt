-- What the opening of a superstep asks.
use Rattle.std.specs.Prelude.{◌≡◌, ◌≤◌, ℕ, List, map, length, All}
use Rattle.bsp_model.specs.Limits.{most_arguments, most_memory_words, most_processes, most_supersteps, most_tag_words}
use Rattle.bsp_model.specs.declared.request.Message.{Message}
use Rattle.bsp_table.specs.declared.area.Area.{Area}
use Rattle.bsp_step.specs.ViewParts.{IsQueue, IsTableFor}
use Rattle.bsp_run.specs.State.{State}

-- the state of these memories and queues
abbrev pub state_of : List (List ℕ × List Message) → List (List Area) → ℕ → State
state_of cells table tag_size =
    record { memories = map (λ c. c.0) cells; queues = map (λ c. c.1) cells; table = table; tag_size = tag_size }

-- arguments, the number of a superstep and a state within the limits
pub record CanOpen (args : List (List ℕ)) (step : ℕ) (s : State) : Type 0 where
  pub few_supersteps : step ≤ most_supersteps
  pub few : length s.memories ≤ most_processes
  pub same_args : length args ≡ length s.memories
  pub short_args : All (λ a. length a ≤ most_arguments) args
  pub short_memories : All (λ m. length m ≤ most_memory_words) s.memories
  pub queues : All IsQueue s.queues
  pub table : IsTableFor (length s.memories) s.table
  pub small_tag : s.tag_size ≤ most_tag_words
