-- The state of a superstep, and what each process may see of it.
use Rattle.std.specs.Prelude.{ℕ, List, [], map, length, slice_index_or}
use Rattle.bsp_model.specs.declared.input.Input.{Input}
use Rattle.bsp_model.specs.declared.request.Message.{Message}
use Rattle.bsp_table.specs.declared.area.Area.{Area}
use Rattle.bsp_table.specs.NextTable.{next_table}
use Rattle.bsp_step.specs.ViewParts.{ViewParts}
use Rattle.bsp_step.specs.OutcomeParts.{OutcomeParts}
use Rattle.bsp_deliver.specs.Requests.{each_below}
use Rattle.bsp_deliver.specs.Delivery.{delivery_parts, next_memory, next_queue}
use Rattle.bsp_deliver.specs.SyncFault.{next_tag_size}

-- A memory and a queue for each process, one table and one tag size (Hill et al. 1998).
pub record State : Type 0 where
  pub memories : List (List ℕ)
  pub queues : List (List Message)
  pub table : List (List Area)
  pub tag_size : ℕ

abbrev pub no_messages : List ℕ → List Message
no_messages memory = []

-- what process p starts with
abbrev pub first_cell : List (List ℕ) → ℕ → List ℕ × List Message
first_cell memories p = (slice_index_or memories p [], [])

-- The first state: the input's memories, empty queues, no slots, tag size 0.
unfoldable pub first_state : Input → State
first_state input = record { memories = input.mems; queues = map no_messages input.mems; table = []; tag_size = 0 }

-- What process p may see in a superstep (Hill et al. 1998).
abbrev pub view_of : List (List ℕ) → ℕ → State → ℕ → ViewParts
view_of args step s p =
    record {
      nprocs = length s.memories;
      pid = p;
      step = step;
      args = slice_index_or args p [];
      memory = slice_index_or s.memories p [];
      table = s.table;
      tag_size = s.tag_size;
      queue = slice_index_or s.queues p [];
    }

-- the memory and the queue that a process sees
abbrev pub cell_of : ViewParts → List ℕ × List Message
cell_of v = (v.memory, v.queue)

unfoldable pub views_of : List (List ℕ) → ℕ → State → List ViewParts
views_of args step s = each_below (length s.memories) (view_of args step s)

abbrev pub pops_of : List OutcomeParts → List (List ℕ)
pops_of os = map (λ o. o.pops) os

abbrev pub pushes_of : List OutcomeParts → List (List Area)
pushes_of os = map (λ o. o.pushes) os

-- The state after delivery (Valiant 1990; Hill et al. 1998).
unfoldable pub next_state : State → List OutcomeParts → State
next_state s os =
    record {
      memories = each_below (length os) (λ d. next_memory (delivery_parts os d));
      queues = each_below (length os) (λ d. next_queue (delivery_parts os d));
      table = next_table s.table (pops_of os) (pushes_of os);
      tag_size = next_tag_size s.tag_size os;
    }
