-- What holds of an input in which no fault is found: private functions and proofs alone speak of it.
use Rattle.std.specs.Prelude.{◌≡◌, ◌≤◌, length, All}
use Rattle.bsp_model.specs.Limits.{highest_price, most_arguments, most_memory_words, most_processes, most_supersteps}
use Rattle.bsp_model.specs.declared.input.Input.{Input}

-- What no fault means.
pub record IsLawfulInput (i : Input) : Type 0 where
  pub some_process : 1 ≤ length i.mems
  pub few_processes : length i.mems ≤ most_processes
  pub same_count : length i.args ≡ length i.mems
  pub short_memories : All (λ m. length m ≤ most_memory_words) i.mems
  pub short_arguments : All (λ a. length a ≤ most_arguments) i.args
  pub some_superstep : 1 ≤ i.limit
  pub few_supersteps : i.limit ≤ most_supersteps
  pub small_g : i.g ≤ highest_price
  pub small_l : i.l ≤ highest_price
