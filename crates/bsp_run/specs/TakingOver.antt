-- When a superstep can be taken over from another run.
use Rattle.std.specs.Prelude.{◌≡◌, ◌<◌, ◌+◌, List, None, length}
use Rattle.bsp_step.specs.OutcomeParts.{OutcomeParts}
use Rattle.bsp_run.specs.declared.phase.Phase.TheVariants.{Open}
use Rattle.bsp_run.specs.State.{next_state, views_of}
use Rattle.bsp_run.specs.Ending.{end_of}
use Rattle.bsp_run.specs.Run.{Run, open_views}
use Rattle.bsp_run.specs.Condition.{AreOutcomesOf}
use Rattle.bsp_run.specs.Supersteps.{superstep_at, supersteps_opened}

-- the outcomes of the other run in the open superstep of this one
abbrev pub outcomes_there : Run → Run → List OutcomeParts
outcomes_there other r = (superstep_at other.past (length r.past)).outcomes

-- The other run's superstep ended by delivery, its outcomes are those of the views that are open here and end the superstep by delivery here too, and
-- what the processes saw there next is what they see here next.
pub record CanTakeOver (other r : Run) : Type 0 where
  pub started : r.phase ≡ Open
  pub past : length r.past < length other.past
  pub turns : AreOutcomesOf (open_views r) (outcomes_there other r)
  pub delivers : end_of (length r.past) r.state.table (outcomes_there other r) ≡ None
  pub next : (superstep_at (supersteps_opened other) (length r.past + 1)).views
      ≡ views_of r.args (length r.past + 1) (next_state r.state (outcomes_there other r))
