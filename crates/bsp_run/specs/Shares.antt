-- A part of a superstep, as workers share it: the turns of some processes, or the deliveries to some.
use Rattle.std.specs.Prelude.{ℕ, List, map, slice_index_or}
use Rattle.bsp_model.specs.declared.request.Message.{Message}
use Rattle.bsp_step.specs.ViewParts.{ViewParts}
use Rattle.bsp_step.specs.OutcomeParts.{OutcomeParts}
use Rattle.bsp_deliver.specs.Delivery.{delivery_parts, next_memory, next_queue}
use Rattle.bsp_run.specs.Condition.{no_view}

-- what the turns of these processes leave, in the order of the list
abbrev pub turns_of : (ViewParts → OutcomeParts) → List ViewParts → List ℕ → List OutcomeParts
turns_of turn vs ps = map (λ p. turn (slice_index_or vs p no_view)) ps

-- the next memories and queues of these processes, in the order of the list
abbrev pub deliveries_to : List OutcomeParts → List ℕ → List (List ℕ × List Message)
deliveries_to os ds = map (λ d. (next_memory (delivery_parts os d), next_queue (delivery_parts os d))) ds
