-- What the end of a superstep asks of the outcomes.
use Rattle.std.specs.Prelude.{ℕ, ◌+◌, ◌<◌, ◌≤◌, All, List, map, length, slice_index}
use Rattle.bsp_model.specs.Limits.{most_memory_words, most_processes}
use Rattle.bsp_model.specs.Replaced.{IsAscending}
use Rattle.bsp_model.specs.declared.request.Put.{Put}
use Rattle.bsp_model.specs.declared.request.Get.{Get}
use Rattle.bsp_step.specs.OutcomeParts.{OutcomeParts}

abbrev pub sizes_of : List OutcomeParts → List ℕ
sizes_of os = map (λ o. length o.memory) os

-- words inside the target's memory
pub record IsPutInside (sizes : List ℕ) (p : Put) : Type 0 where
  pub known : p.target < length sizes
  pub inside : p.start + length p.words ≤ slice_index sizes p.target

-- words inside the owner's memory, into words inside the own one
pub record IsGetInside (sizes : List ℕ) (own : ℕ) (g : Get) : Type 0 where
  pub known : g.owner < length sizes
  pub inside : g.start + g.len ≤ slice_index sizes g.owner
  pub room : g.into + g.len ≤ own

-- every request names a process, and words inside the memories, whose lengths are the sizes
pub record AreRequestsInside (sizes : List ℕ) (o : OutcomeParts) : Type 0 where
  pub puts : All (IsPutInside sizes) o.puts
  pub gets : All (IsGetInside sizes (length o.memory)) o.gets
  pub sends : All (λ m. m.target < length sizes) o.sends

-- One outcome for each process, with memories within the limit, and every request inside the memories concerned.
pub record AreDeliverable (os : List OutcomeParts) : Type 0 where
  pub some : 1 ≤ length os
  pub few : length os ≤ most_processes
  pub short : All (λ o. length o.memory ≤ most_memory_words) os
  pub inside : All (AreRequestsInside (sizes_of os)) os

-- Deliveries to these processes can be made, of which each stands once in the list, in ascending order.
pub record CanDeliver (os : List OutcomeParts) (ds : List ℕ) : Type 0 where
  pub deliverable : AreDeliverable os
  pub known : All (λ d. d < length os) ds
  pub ascending : IsAscending ds
