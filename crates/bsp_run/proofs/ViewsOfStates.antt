-- The views of a state.
use Rattle.std.proofs.Common.{◌≡◌, ◌<◌, ℕ, List, [], length, arith}
use Rattle.bsp_step.specs.ViewParts.{IsView}
use Rattle.bsp_run.specs.State.{State, view_of}
use Rattle.bsp_run.specs.Inside.Opening.{CanOpen}

-- each view of a state within the limits is within them
pub view_within : (args : List (List ℕ)) (step : ℕ) (s : State) (p : ℕ) → CanOpen args step s → length s.queues ≡ length s.memories → p < length s.memories → IsView (view_of args step s p)
view_within args step s p h same l =
    record {
      pid_below = l;
      few_processes = h.few;
      few_supersteps = h.few_supersteps;
      few_args = h.short_args p [] (omega (arith, h.same_args));
      short_memory = h.short_memories p [] l;
      small_tag = h.small_tag;
      table = h.table;
      queue = h.queues p [] (omega (arith, same));
    }
