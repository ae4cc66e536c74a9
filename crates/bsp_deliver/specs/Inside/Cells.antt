-- The memories of several processes, and beside them a column of their queues.
use Rattle.std.specs.Prelude.{ℕ, List, length, map}
use Rattle.std.specs.List.{range_with_len}
use Rattle.bsp_model.specs.declared.request.Message.{Message}
use Rattle.bsp_model.specs.Columns.{row_at}

-- The memory and the queue of each process. A process whose queue doesn't stand has the empty one.
unfoldable pub cells_of : List (List ℕ) → List (List Message) → List (List ℕ × List Message)
cells_of memories queues = map (λ k. (row_at memories k, row_at queues k)) (range_with_len 0 (length memories))
